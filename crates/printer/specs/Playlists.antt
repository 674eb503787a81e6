-- What a text prints.
-- Assumes nothing.
use Rattle.std.specs.Prelude.{ℕ, List, Some, None, Ok, Err, Option, Result}
use Rattle.call.specs.Effects.{refused}
use Rattle.call.specs.declared.answer.Answer.{Answer}
use Rattle.call.specs.declared.answer.Refusal.{Refusal}
use Rattle.playlist.specs.Collections.{Records, collected, no_records}
use Rattle.playlist.specs.Forms.{Entry}
use Rattle.playlist.specs.Entries.{reading}
use Rattle.playlist.specs.declared.fault.Fault.{Fault}
use Rattle.session.specs.Sessions.{session_answers, session_refusal}
use Rattle.printer.specs.Prints.{refused_rows, rows_from}
use Rattle.printer.specs.Rows.{fault_row}

-- the opening's refusal, and the calls' answers where there is none
abbrev pub refusal_of : Records → Option Refusal
refusal_of r = session_refusal r.settings r.subscribers r.roles r.stations

abbrev pub answers_of : Records → List Answer
answers_of r = session_answers r.settings r.subscribers r.roles r.stations r.calls

abbrev pub played : Option Refusal → Records → List Entry → List ℕ
played (Some refusal) r entries = refused_rows (refused refusal) entries
played None r entries = rows_from (answers_of r) 0 entries

abbrev pub printed_entries : List Entry → List ℕ
printed_entries entries = played (refusal_of (collected no_records entries)) (collected no_records entries) entries

abbrev pub printed_as : Result (List Entry) Fault → List ℕ
printed_as (Ok entries) = printed_entries entries
printed_as (Err fault) = fault_row fault.line fault.field

-- read whole first: the print of its lines, or of its fault alone
abbrev pub printed : (text : List ℕ) → List ℕ
printed text = printed_as (reading text)
