-- The records of a text, each kind in its own list.
-- Assumes nothing.
use Rattle.std.specs.Prelude.{◌≡◌, ℕ, List, [], ◌∷◌, ◌++◌, Ok, Err, vec_items, Result}
use Rattle.call.specs.declared.calls.Call.{Call}
use Rattle.call.specs.declared.opening.SettingNumbers.{SettingNumbers}
use Rattle.call.specs.declared.opening.Subscriber.{Subscriber}
use Rattle.schemes.specs.declared.role.Role.{Role}
use Rattle.playlist.specs.Entries.{reading}
use Rattle.playlist.specs.Forms.{Entry}
use Rattle.playlist.specs.Forms.Entry.{settings, role, mobile, call, note}
use Rattle.playlist.specs.declared.fault.Fault.{Fault}
use Rattle.playlist.specs.declared.read_error.ReadError.{ReadError}
use Rattle.playlist.specs.declared.read_error.ReadError.TheVariants as errors
use Rattle.playlist.specs.declared.records.Playlist.{Playlist}

pub record Records : Type 0 where
  pub stations : ℕ
  pub settings : SettingNumbers
  pub roles : List Role
  pub subscribers : List Subscriber
  pub calls : List Call

abbrev pub no_records : Records
no_records =
    record {
      stations = 0;
      settings = record { period = 0; t3128 = 0; t3130 = 0; link = 0 };
      roles = [];
      subscribers = [];
      calls = [];
    }

-- one entry more
abbrev pub after : Records → Entry → Records
after r (settings n s) = record { stations = n; settings = s; roles = r.roles; subscribers = r.subscribers; calls = r.calls }
after r (role x) =
    record { stations = r.stations; settings = r.settings; roles = r.roles ++ x ∷ []; subscribers = r.subscribers; calls = r.calls }
after r (mobile x) =
    record { stations = r.stations; settings = r.settings; roles = r.roles; subscribers = r.subscribers ++ x ∷ []; calls = r.calls }
after r (call x) =
    record { stations = r.stations; settings = r.settings; roles = r.roles; subscribers = r.subscribers; calls = r.calls ++ x ∷ [] }
after r (note bytes) = r

abbrev pub collected : Records → List Entry → Records
collected r [] = r
collected r (e ∷ es) = collected (after r e) es

abbrev pub collected_in : Records → Result (List Entry) Fault → Result Records Fault
collected_in r (Ok entries) = Ok (collected r entries)
collected_in r (Err fault) = Err fault

-- the records of a text, or its fault
abbrev pub playlist_of : List ℕ → Result Records Fault
playlist_of text = collected_in no_records (reading text)

-- what the code holds
abbrev pub held : Playlist → Records
held p =
    record {
      stations = p.stations;
      settings = p.settings;
      roles = vec_items p.roles;
      subscribers = vec_items p.subscribers;
      calls = vec_items p.calls;
    }

-- what the code gives of a text that has these records or this fault; only memory can be wanting besides
abbrev pub ReadAs : Result Records Fault → Result Playlist ReadError → Type 0
ReadAs is (Ok p) = is ≡ Ok (held p)
ReadAs is (Err (errors.Fault fault)) = is ≡ Err fault
ReadAs is (Err (errors.Memory failed)) = Unit {0}
