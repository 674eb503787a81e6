-- A mobile's step keeps its line, with the account of the answer.
-- Assumes nothing.
use Rattle.std.proofs.Common.{◌≡◌, ℕ, suc, ◌+◌, ◌≤◌, Bool, true, false, cond, ◌&&◌, eqb, leb, List, ◌∷◌, length, None, sym, refl, ap, ◌∙◌, subst, arith, lit≤}
use Rattle.std.proofs.lemmas.Bool.{and_parts, cond_both, cond-true, eqb-true}
use Rattle.messages.specs.declared.message.DownlinkKind.TheVariants as downlinks
use Rattle.messages.specs.declared.message.Kind.{Kind}
use Rattle.messages.specs.declared.message.Kind.TheVariants.{Downlink, Uplink as Up, Anchor, Station as ToStation}
use Rattle.messages.specs.declared.message.Message.{Message}
use Rattle.mobile.specs.Rows.{attempt_number, open_to}
use Rattle.mobile.specs.Steps.{MobileActed, knowing, rejected, attempts, waits, links, talk_begun, asked_in, finished_in, on_free_in, on_busy_in, on_grant_in, on_ua_in, on_release_in, heard_kind, heard, again, unanswered, timed_in}
use Rattle.mobile.specs.declared.row.Attempt.{Attempt as Try}
use Rattle.mobile.specs.declared.row.Attempt.TheVariants.{First, Second, Third}
use Rattle.mobile.specs.declared.row.Mobile.{Mobile}
use Rattle.mobile.specs.declared.row.MobileTimers.{MobileTimers}
use Rattle.mobile.specs.declared.row.Rejection.{Rejection}
use Rattle.mobile.specs.declared.row.State.{State}
use Rattle.mobile.specs.declared.row.State.TheVariants.{Listens, Waits, Asks, Links, Talks}
use Rattle.mobile.specs.declared.row.Uplink.TheVariants.{Free, Busy}
use Rattle.station.specs.declared.row.Station.{Station}
use Rattle.anchor.specs.declared.entry.Entry.{Entry}
use Rattle.call.specs.Effects.{mobile_outcome}
use Rattle.call.specs.Guarantees.{GrantedTo}
use Rattle.call.specs.Histories.{Account, InOrder, answered, ask_answered, down_from, one_while}
use Rattle.call.specs.Histories as histories
use Rattle.call.proofs.Lines.{AirLine, MobileLine, Named, TalkLines, all_bare}

-- over the book, the row of the mobile's station, and the mobile's identity
module _ (book : List Entry) (last : ℕ) (station : Station) (holder : ℕ → ℕ) (b identity : ℕ) where
  abbrev Line : State → Account → Type 0
  Line state a = MobileLine book last station holder b identity state a

  -- what a step is owed
  pub record Good (note : Account) (acted : MobileActed) : Type 0 where
    pub line : Line acted.row.state note
    pub said : all_bare acted.said ≡ true

  -- a request is on
  pub record Requests (a : Account) : Type 0 where
    pub on : a.request_on ≡ true
    pub silent : a.talking ≡ None
    pub ordered : InOrder a
    pub talked : TalkLines book last station holder b identity a.talks

  -- of the account after any call but an ask
  abbrev After : Account → MobileActed → Type 0
  After a acted = Good (answered (mobile_outcome acted.outcome) a) acted

  -- a rejection ends the request
  rejecting : (why : Rejection) (row : Mobile) (a : Account) → Requests a → After a (rejected why row)
  rejecting why row a r =
      record {
        line = record {
          stated = (refl, r.silent);
          ordered = record {
            balance = let e = r.ordered.balance ∙ ap (λ (on : Bool). length a.talks + a.rejections + one_while on) r.on in omega arith;
            tries = r.ordered.tries;
            few = r.ordered.few;
            numbered = r.ordered.numbered;
          };
          talked = r.talked;
        };
        said = refl;
      }

  -- an attempt is the next after those that were
  attempting : (attempt : Try) (before : ℕ) (reference rank time : ℕ) (timers : MobileTimers) (row : Mobile) (a : Account) → attempt_number attempt ≡ suc before → attempt_number attempt ≤ 3 → a.attempts ≡ down_from before → a.reference ≡ reference → a.rank ≡ rank → Requests a → After a (attempts attempt reference rank time timers row)
  attempting attempt before reference rank time timers row a number few were reference_is rank_is r =
      let next : cond a.request_on (attempt_number attempt ∷ a.attempts) a.attempts ≡ down_from (attempt_number attempt) = cond-true a.request_on _ _ r.on ∙ ap (λ (l : List ℕ). attempt_number attempt ∷ l) were ∙ ap (λ (n : ℕ). n ∷ down_from before) number ∙ ap down_from (sym number) in
      record {
        line = record {
          stated = (r.on, r.silent, next, reference_is, rank_is);
          ordered = record { balance = r.ordered.balance; tries = attempt_number attempt; few = few; numbered = next };
          talked = r.talked;
        };
        said = refl;
      }

  -- what is noted of the uplink changes no line
  staying : (acted : MobileActed) (a : Account) (state : State) → acted.row.state ≡ state → answered (mobile_outcome acted.outcome) a ≡ a → all_bare acted.said ≡ true → Line state a → After a acted
  staying acted a state same none said line =
      record { line = subst (λ (s : State). Line s (answered (mobile_outcome acted.outcome) a)) (sym same) (subst (λ (x : Account). Line state x) (sym none) line); said = said }

  waiting_on : (reference rank deadline : ℕ) (a : Account) → Line (Waits reference rank deadline) a → Requests a
  waiting_on reference rank deadline a line =
      record { on = line.stated.0; silent = line.stated.1; ordered = line.ordered; talked = line.talked }

  asking_on : (attempt : Try) (reference rank deadline : ℕ) (a : Account) → Line (Asks attempt reference rank deadline) a → Requests a
  asking_on attempt reference rank deadline a line =
      record { on = line.stated.0; silent = line.stated.1; ordered = line.ordered; talked = line.talked }

  linking_on : (grant deadline : ℕ) (a : Account) → Line (Links grant deadline) a → Requests a
  linking_on grant deadline a line =
      record { on = line.stated.0; silent = line.stated.1; ordered = line.ordered; talked = line.talked }

  -- a first attempt of a mobile that waited
  first_attempt : (reference rank deadline time : ℕ) (timers : MobileTimers) (row : Mobile) (a : Account) → Line (Waits reference rank deadline) a → After a (attempts First reference rank time timers row)
  first_attempt reference rank deadline time timers row a line =
      attempting First 0 reference rank time timers row a refl (lit≤ tt) line.stated.2 line.stated.3 line.stated.4 (waiting_on reference rank deadline a line)

  -- the user asks: the first attempt, or the wait, of a new request
  abbrev Asked : (reference rank : ℕ) → Account → MobileActed → Type 0
  Asked reference rank a acted = Good (ask_answered reference rank (mobile_outcome acted.outcome) a) acted

  new_balance : (a : Account) → a.request_on ≡ false → InOrder a → suc a.asks ≡ length a.talks + a.rejections + 1
  new_balance a off order =
      let e = order.balance ∙ ap (λ (on : Bool). length a.talks + a.rejections + one_while on) off in omega arith

  pub asks_good : (above : ℕ → ℕ → Bool) (reference rank time : ℕ) (timers : MobileTimers) (row : Mobile) (a : Account) → Line Listens a → Asked reference rank a (asked_in Listens above reference rank time timers row)
  asks_good above reference rank time timers row a line =
      cond_both (open_to above rank time row.uplink) (attempts First reference rank time timers row) (waits reference rank time timers row) (Asked reference rank a)
      (λ _. record {
        line = record {
          stated = (refl, line.stated.1, refl, refl, refl);
          ordered = record { balance = new_balance a line.stated.0 line.ordered; tries = 1; few = lit≤ tt; numbered = refl };
          talked = line.talked;
        };
        said = refl;
      })
      (λ _. record {
        line = record {
          stated = (refl, line.stated.1, refl, refl, refl);
          ordered = record { balance = new_balance a line.stated.0 line.ordered; tries = 0; few = lit≤ tt; numbered = refl };
          talked = line.talked;
        };
        said = refl;
      })

  -- a talk ends
  ending : (grant : ℕ) (acted : MobileActed) (a : Account) → acted.row.state ≡ Listens → answered (mobile_outcome acted.outcome) a ≡ histories.talk_ended a → all_bare acted.said ≡ true → Line (Talks grant) a → After a acted
  ending grant acted a state note said line =
      record {
        line = subst (λ (s : State). Line s (answered (mobile_outcome acted.outcome) a)) (sym state) (subst (λ (x : Account). Line Listens x) (sym note) (record {
          stated = (line.stated.0, refl);
          ordered = record { balance = line.ordered.balance; tries = line.ordered.tries; few = line.ordered.few; numbered = line.ordered.numbered };
          talked = line.talked;
        }));
        said = said;
      }

  pub finish_good : (state : State) (row : Mobile) (a : Account) → row.state ≡ state → Line state a → After a (finished_in state row)
  finish_good Listens row a is line = staying _ a Listens is refl refl line
  finish_good (Waits reference rank deadline) row a is line = staying _ a (Waits reference rank deadline) is refl refl line
  finish_good (Asks attempt reference rank deadline) row a is line = staying _ a (Asks attempt reference rank deadline) is refl refl line
  finish_good (Links grant deadline) row a is line = staying _ a (Links grant deadline) is refl refl line
  finish_good (Talks grant) row a is line = ending grant _ a refl refl refl line

  free_good : (state : State) (time : ℕ) (timers : MobileTimers) (row : Mobile) (a : Account) → row.state ≡ state → Line state a → After a (on_free_in state time timers row)
  free_good Listens time timers row a is line = staying _ a Listens is refl refl line
  free_good (Waits reference rank deadline) time timers row a is line = first_attempt reference rank deadline time timers row a line
  free_good (Asks attempt reference rank deadline) time timers row a is line = staying _ a (Asks attempt reference rank deadline) is refl refl line
  free_good (Links grant deadline) time timers row a is line = staying _ a (Links grant deadline) is refl refl line
  free_good (Talks grant) time timers row a is line = staying _ a (Talks grant) is refl refl line

  busy_good : (state : State) (above : ℕ → ℕ → Bool) (talker time : ℕ) (timers : MobileTimers) (row : Mobile) (a : Account) → row.state ≡ state → Line state a → After a (on_busy_in state above talker time timers row)
  busy_good Listens above talker time timers row a is line = staying _ a Listens is refl refl line
  busy_good (Waits reference rank deadline) above talker time timers row a is line =
      cond_both (above rank talker) _ _ (After a) (λ _. first_attempt reference rank deadline time timers row a line) (λ _. staying _ a (Waits reference rank deadline) is refl refl line)
  busy_good (Asks attempt reference rank deadline) above talker time timers row a is line =
      cond_both (above rank talker) _ _ (After a) (λ _. staying _ a (Asks attempt reference rank deadline) is refl refl line) (λ _. rejecting _ row a (asking_on attempt reference rank deadline a line))
  busy_good (Links grant deadline) above talker time timers row a is line = staying _ a (Links grant deadline) is refl refl line
  busy_good (Talks grant) above talker time timers row a is line = staying _ a (Talks grant) is refl refl line

  -- GRANT of its own reference and rank
  linking : (m : Message) (attempt : Try) (reference rank deadline time : ℕ) (timers : MobileTimers) (row : Mobile) (a : Account) → m.reference ≡ reference → m.rank ≡ rank → GrantedTo book last m.grant b m.reference m.rank → m.grant ≤ station.top → Line (Asks attempt reference rank deadline) a → After a (links m.grant time timers row)
  linking m attempt reference rank deadline time timers row a reference_is rank_is granted under line =
      record {
        line = record {
          stated = (
            line.stated.0,
            line.stated.1,
            record {
              least = granted.least;
              most = granted.most;
              for_station = granted.for_station;
              for_reference = granted.for_reference ∙ reference_is ∙ sym line.stated.3;
              for_rank = granted.for_rank ∙ rank_is ∙ sym line.stated.4;
            },
            under,
          );
          ordered = line.ordered;
          talked = line.talked;
        };
        said = refl;
      }

  grant_good : (state : State) (m : Message) (time : ℕ) (timers : MobileTimers) (row : Mobile) (a : Account) → row.state ≡ state → GrantedTo book last m.grant b m.reference m.rank → m.grant ≤ station.top → Line state a → After a (on_grant_in state m.reference m.rank m.grant time timers row)
  grant_good Listens m time timers row a is granted under line = staying _ a Listens is refl refl line
  grant_good (Waits reference rank deadline) m time timers row a is granted under line = staying _ a (Waits reference rank deadline) is refl refl line
  grant_good (Asks attempt reference rank deadline) m time timers row a is granted under line =
      cond_both (eqb m.reference reference && eqb m.rank rank) _ _ (After a)
      (λ same. let both = and_parts (eqb m.reference reference) (eqb m.rank rank) same in linking m attempt reference rank deadline time timers row a (eqb-true _ _ both.0) (eqb-true _ _ both.1) granted under line)
      (λ _. rejecting _ row a (asking_on attempt reference rank deadline a line))
  grant_good (Links grant deadline) m time timers row a is granted under line = staying _ a (Links grant deadline) is refl refl line
  grant_good (Talks grant) m time timers row a is granted under line = staying _ a (Talks grant) is refl refl line

  -- UA of its grant with its own identity
  talking : (m : Message) (grant deadline : ℕ) (row : Mobile) (a : Account) → m.grant ≡ grant → m.identity ≡ identity → Named book last station holder b m.grant m.identity → Line (Links grant deadline) a → After a (talk_begun grant row)
  talking m grant deadline row a grant_is identity_is named line =
      let r = linking_on grant deadline a line in
      let there : Named book last station holder b grant identity = subst (λ (i : ℕ). Named book last station holder b grant i) identity_is (subst (λ (g : ℕ). Named book last station holder b g m.identity) grant_is named) in
      record {
        line = record {
          stated = (refl, refl, line.stated.2);
          ordered = record {
            balance = let e = r.ordered.balance ∙ ap (λ (on : Bool). length a.talks + a.rejections + one_while on) r.on in omega arith;
            tries = r.ordered.tries;
            few = r.ordered.few;
            numbered = r.ordered.numbered;
          };
          talked = ((line.stated.2, there), line.talked);
        };
        said = refl;
      }

  ua_good : (state : State) (m : Message) (row : Mobile) (a : Account) → row.state ≡ state → row.identity ≡ identity → Named book last station holder b m.grant m.identity → Line state a → After a (on_ua_in state m.grant m.identity row)
  ua_good Listens m row a is who named line = staying _ a Listens is refl refl line
  ua_good (Waits reference rank deadline) m row a is who named line = staying _ a (Waits reference rank deadline) is refl refl line
  ua_good (Asks attempt reference rank deadline) m row a is who named line = staying _ a (Asks attempt reference rank deadline) is refl refl line
  ua_good (Links grant deadline) m row a is who named line =
      cond_both (eqb m.grant grant) _ _ (After a)
      (λ same. cond_both (eqb m.identity row.identity) _ _ (After a) (λ own. talking m grant deadline row a (eqb-true _ _ same) (eqb-true _ _ own ∙ who) named line) (λ _. rejecting _ row a (linking_on grant deadline a line)))
      (λ _. staying _ a (Links grant deadline) is refl refl line)
  ua_good (Talks grant) m row a is who named line = staying _ a (Talks grant) is refl refl line

  release_good : (state : State) (number : ℕ) (row : Mobile) (a : Account) → row.state ≡ state → Line state a → After a (on_release_in state number row)
  release_good Listens number row a is line = staying _ a Listens is refl refl line
  release_good (Waits reference rank deadline) number row a is line = staying _ a (Waits reference rank deadline) is refl refl line
  release_good (Asks attempt reference rank deadline) number row a is line = staying _ a (Asks attempt reference rank deadline) is refl refl line
  release_good (Links grant deadline) number row a is line =
      cond_both (leb grant number) _ _ (After a) (λ _. rejecting _ row a (linking_on grant deadline a line)) (λ _. staying _ a (Links grant deadline) is refl refl line)
  release_good (Talks grant) number row a is line =
      cond_both (leb grant number) _ _ (After a) (λ _. ending grant _ a refl refl refl line) (λ _. staying _ a (Talks grant) is refl refl line)

  by_kind : (kind : Kind) (above : ℕ → ℕ → Bool) (time : ℕ) (timers : MobileTimers) (m : Message) (row : Mobile) (a : Account) → row.identity ≡ identity → AirLine book last station holder b kind m → Line row.state a → After a (heard_kind kind above time timers m row)
  by_kind (Downlink downlinks.Free) above time timers m row a who heard line = free_good row.state time timers (knowing (Free time) row) a refl line
  by_kind (Downlink downlinks.Busy) above time timers m row a who heard line = busy_good row.state above m.rank time timers (knowing (Busy m.rank) row) a refl line
  by_kind (Downlink downlinks.Grant) above time timers m row a who heard line = grant_good row.state m time timers row a refl heard.0 heard.1 line
  by_kind (Downlink downlinks.Ua) above time timers m row a who heard line = ua_good row.state m row a refl who heard line
  by_kind (Downlink downlinks.Release) above time timers m row a who heard line = release_good row.state m.grant row a refl line
  by_kind (Up kind) above time timers m row a who heard line = staying _ a row.state refl refl refl line
  by_kind (Anchor kind) above time timers m row a who heard line = staying _ a row.state refl refl refl line
  by_kind (ToStation kind) above time timers m row a who heard line = staying _ a row.state refl refl refl line

  pub hears_good : (above : ℕ → ℕ → Bool) (time : ℕ) (timers : MobileTimers) (m : Message) (row : Mobile) (a : Account) → row.identity ≡ identity → AirLine book last station holder b m.kind m → Line row.state a → After a (heard above time timers m row)
  hears_good above time timers m row a who line = by_kind m.kind above time timers m row a who line

  -- the timer
  again_good : (next : Try) (before : ℕ) (above : ℕ → ℕ → Bool) (reference rank time : ℕ) (timers : MobileTimers) (row : Mobile) (a : Account) → attempt_number next ≡ suc before → attempt_number next ≤ 3 → a.attempts ≡ down_from before → a.reference ≡ reference → a.rank ≡ rank → Requests a → After a (again next above reference rank time timers row)
  again_good next before above reference rank time timers row a number few were reference_is rank_is r =
      cond_both (open_to above rank time row.uplink) _ _ (After a) (λ _. attempting next before reference rank time timers row a number few were reference_is rank_is r) (λ _. rejecting _ row a r)

  unanswered_good : (attempt : Try) (above : ℕ → ℕ → Bool) (reference rank deadline time : ℕ) (timers : MobileTimers) (row : Mobile) (a : Account) → Line (Asks attempt reference rank deadline) a → After a (unanswered attempt above reference rank time timers row)
  unanswered_good First above reference rank deadline time timers row a line =
      again_good Second 1 above reference rank time timers row a refl (lit≤ tt) line.stated.2 line.stated.3 line.stated.4 (asking_on First reference rank deadline a line)
  unanswered_good Second above reference rank deadline time timers row a line =
      again_good Third 2 above reference rank time timers row a refl (lit≤ tt) line.stated.2 line.stated.3 line.stated.4 (asking_on Second reference rank deadline a line)
  unanswered_good Third above reference rank deadline time timers row a line = rejecting _ row a (asking_on Third reference rank deadline a line)

  pub timed_good : (state : State) (above : ℕ → ℕ → Bool) (time : ℕ) (timers : MobileTimers) (row : Mobile) (a : Account) → row.state ≡ state → Line state a → After a (timed_in state above time timers row)
  timed_good Listens above time timers row a is line = staying _ a Listens is refl refl line
  timed_good (Waits reference rank deadline) above time timers row a is line =
      cond_both (leb deadline time) _ _ (After a) (λ _. rejecting _ row a (waiting_on reference rank deadline a line)) (λ _. staying _ a (Waits reference rank deadline) is refl refl line)
  timed_good (Asks attempt reference rank deadline) above time timers row a is line =
      cond_both (leb deadline time) _ _ (After a) (λ _. unanswered_good attempt above reference rank deadline time timers row a line) (λ _. staying _ a (Asks attempt reference rank deadline) is refl refl line)
  timed_good (Links grant deadline) above time timers row a is line =
      cond_both (leb deadline time) _ _ (After a) (λ _. rejecting _ row a (linking_on grant deadline a line)) (λ _. staying _ a (Links grant deadline) is refl refl line)
  timed_good (Talks grant) above time timers row a is line = staying _ a (Talks grant) is refl refl line
