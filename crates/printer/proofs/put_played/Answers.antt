use Rattle.std.proofs.Common.{List, vec_items, sym, ap, ◌∙◌}
use Rattle.std.proofs.lemmas.Result.{IfOk-weaker}
use Rattle.call.specs.declared.calls.Call.{Call}
use Rattle.call.specs.declared.opening.Subscriber.{Subscriber}
use Rattle.schemes.specs.declared.role.Role.{Role}
use Rattle.playlist.specs.Collections.{held}
use Rattle.playlist.specs.Stands.{stand_of}
use Rattle.session.specs.Sessions.{session_answers, session_refusal}
use Rattle.printer.proofs.Playing.{played_rows}
use Rattle.printer.proofs.put_played.Goals as goal

pub returns-in-Ok : goal.returns-in-Ok
returns-in-Ok c =
    let p = c.args.playlist.now in
    let subscribers = c.deref.result.now in
    let roles = c.deref-2.result.now in
    let calls = c.deref-3.result.now in
    let accepted = sym (ap (λ (s : List Subscriber). session_refusal p.settings s roles p.stations) c.deref.ensures.value ∙ ap (λ (r : List Role). session_refusal p.settings (vec_items p.subscribers) r p.stations) c.deref-2.ensures.value) ∙ c.in-Ok.ensures.exact.0 in
    let answers = c.deref-in-Ok.ensures.value ∙ c.in-Ok.ensures.exact.1
    ∙ ap (λ (s : List Subscriber). session_answers p.settings s roles p.stations calls) c.deref.ensures.value
    ∙ ap (λ (r : List Role). session_answers p.settings (vec_items p.subscribers) r p.stations calls) c.deref-2.ensures.value
    ∙ ap (λ (l : List Call). session_answers p.settings (vec_items p.subscribers) (vec_items p.roles) p.stations l) c.deref-3.ensures.value in
    IfOk-weaker c.put_rows.result _ _
    (λ done rows entries read same. played_rows c.args.text.now (vec_items c.args.out.now) (vec_items c.put_rows.new.out) (stand_of c.new-reader.result) (held p) c.deref-in-Ok.result.now entries c.new-reader.ensures accepted answers rows read same)
    c.put_rows.ensures
