-- One step of a mobile, a station or the anchor keeps the lines of the whole.
-- Assumes nothing.
use Rattle.std.proofs.Common.{◌≡◌, ℕ, ◌-◌, ◌≤◌, Bool, List, [], ◌∷◌, length, get_or, set, sym, refl, ap, ◌∙◌, subst, ⊎_elim, arith}
use Rattle.std.proofs.lemmas.List.{length-set, get_or-set_same, get_or-set_other}
use Rattle.std.proofs.lemmas.Bool.{cases_eq}
use Rattle.messages.specs.Addresses.{cell_at, station_at}
use Rattle.messages.specs.declared.message.DownlinkKind.TheVariants as downlinks
use Rattle.messages.specs.declared.message.Kind.{Kind}
use Rattle.messages.specs.declared.message.Kind.TheVariants.{Downlink, Uplink, Anchor, Station as ToStation}
use Rattle.messages.specs.declared.message.Message.{Message}
use Rattle.messages.specs.declared.message.StationKind.TheVariants.{Acknowledge, Reject, Seized as SeizedKind, ReleaseCommand}
use Rattle.messages.specs.declared.outbox.Post.{Post}
use Rattle.messages.specs.declared.outbox.Post.TheVariants.{Air, Wire}
use Rattle.mobile.specs.Steps.{MobileActed}
use Rattle.mobile.specs.declared.row.Mobile.{Mobile}
use Rattle.mobile.specs.declared.row.State.{State}
use Rattle.mobile.specs.declared.row.State.TheVariants.{Listens, Waits, Asks, Links, Talks}
use Rattle.station.specs.Laws.{Says}
use Rattle.station.specs.Stations.{StationActed}
use Rattle.station.specs.declared.row.Phase.{Phase}
use Rattle.station.specs.declared.row.Phase.TheVariants.{Shut, Free, Seized, Granted, Held, Closing}
use Rattle.station.specs.declared.row.Station.{Station}
use Rattle.anchor.specs.Anchors.{AnchorActed}
use Rattle.anchor.specs.Laws.{BookSound}
use Rattle.anchor.specs.declared.entry.Entry.{Entry}
use Rattle.call.specs.Effects.{by_mobile, by_station, by_anchor}
use Rattle.call.specs.Guarantees.{GrantedTo, grant_at}
use Rattle.call.specs.Histories.{Account, Talk}
use Rattle.call.specs.World.{Frame, Tables, mobile_at, station_number, no_mobile, no_station}
use Rattle.call.proofs.Anchors.{SaidGood}
use Rattle.call.proofs.Lines.{AirLine, IsMobile, IsStation, MobileLine, Named, Own, PhaseLine, Sound, StateLine, TalkLines, WireLine, bare_air_line, bare_said, bare_wire_line, own}
use Rattle.call.proofs.Mobiles.{Good}
use Rattle.call.proofs.Stations.{StationGood}

-- what a step is owed: tables that are sound with the accounts after it, and the lines of old and said messages
pub record Kept (f : Frame) (above : ℕ → ℕ → Bool) (holder : ℕ → ℕ) (t : Tables) (accounts : ℕ → Account) (t' : Tables) (said : List Post) : Type 0 where
  pub holder_after : ℕ → ℕ
  pub sound : Sound f above holder_after accounts t'
  pub air : (m : Message) (b : ℕ) → IsStation f b → AirLine t.book t.last (station_number t b) holder b m.kind m → AirLine t'.book t'.last (station_number t' b) holder_after b m.kind m
  pub wire : (m : Message) (b : ℕ) → IsStation f b → WireLine t.book t.last b m.kind m → WireLine t'.book t'.last b m.kind m
  pub said_air : (m : Message) → Says said (Air m) → (b : ℕ) → IsStation f b → m.address ≡ cell_at b → AirLine t'.book t'.last (station_number t' b) holder_after b m.kind m
  pub said_wire : (m : Message) → Says said (Wire m) → (b : ℕ) → IsStation f b → m.address ≡ station_at b → WireLine t'.book t'.last b m.kind m

-- what a step leaves of the grants of station b
module _ (book : List Entry) (last : ℕ) (row : Station) (holder : ℕ → ℕ) (book' : List Entry) (last' : ℕ) (row' : Station) (holder' : ℕ → ℕ) (b : ℕ) where
  pub record Grown : Type 0 where
    pub granted : (grant reference rank : ℕ) → GrantedTo book last grant b reference rank → GrantedTo book' last' grant b reference rank
    pub rises : row.top ≤ row'.top
    pub named : (grant identity : ℕ) → Named book last row holder b grant identity → Named book' last' row' holder' b grant identity

  air_grown : Grown → (kind : Kind) (m : Message) → AirLine book last row holder b kind m → AirLine book' last' row' holder' b kind m
  air_grown g (Downlink downlinks.Free) m line = tt
  air_grown g (Downlink downlinks.Busy) m line = tt
  air_grown g (Downlink downlinks.Grant) m line =
      (g.granted m.grant m.reference m.rank line.0, (let u = line.1 in let r = g.rises in omega arith))
  air_grown g (Downlink downlinks.Ua) m line = g.named m.grant m.identity line
  air_grown g (Downlink downlinks.Release) m line = tt
  air_grown g (Uplink kind) m line = tt
  air_grown g (Anchor kind) m line = tt
  air_grown g (ToStation kind) m line = tt

  wire_grown : Grown → (kind : Kind) (m : Message) → WireLine book last b kind m → WireLine book' last' b kind m
  wire_grown g (Downlink kind) m line = tt
  wire_grown g (Uplink kind) m line = tt
  wire_grown g (Anchor kind) m line = tt
  wire_grown g (ToStation Acknowledge) m line = g.granted m.grant m.reference m.rank line
  wire_grown g (ToStation Reject) m line = tt
  wire_grown g (ToStation SeizedKind) m line = tt
  wire_grown g (ToStation ReleaseCommand) m line = tt

  talks_grown : Grown → (identity : ℕ) (talks : List Talk) → TalkLines book last row holder b identity talks → TalkLines book' last' row' holder' b identity talks
  talks_grown g identity [] lines = tt
  talks_grown g identity (talk ∷ talks) lines = (
    (g.granted talk.grant talk.reference talk.rank lines.0.0, g.named talk.grant identity lines.0.1),
    talks_grown g identity talks lines.1,
  )

  state_grown : Grown → (state : State) (a : Account) → StateLine book last row holder b state a → StateLine book' last' row' holder' b state a
  state_grown g Listens a line = line
  state_grown g (Waits reference rank deadline) a line = line
  state_grown g (Asks attempt reference rank deadline) a line = line
  state_grown g (Links grant deadline) a line =
      (line.0, line.1, g.granted grant a.reference a.rank line.2, (let u = line.3 in let r = g.rises in omega arith))
  state_grown g (Talks grant) a line = (line.0, line.1, g.granted grant a.reference a.rank line.2)

  mobile_grown : Grown → (identity : ℕ) (state : State) (a : Account) → MobileLine book last row holder b identity state a → MobileLine book' last' row' holder' b identity state a
  mobile_grown g identity state a line =
      record {
        stated = state_grown g state a line.stated;
        ordered = line.ordered;
        talked = talks_grown g identity a.talks line.talked;
      }

-- a row of a table, by its number from 1
module _ {X : Type 0} (rows : List X) (count : ℕ) (size : length rows ≡ count) (k : ℕ) (there : (1 ≤ k) × (k ≤ count)) (v d : X) where
  pub row_same : get_or (set rows (k - 1) v) (k - 1) d ≡ v
  row_same = let l = there.0 in let m = there.1 in get_or-set_same rows (k - 1) v d (omega arith)

  pub row_other : (n : ℕ) → 1 ≤ n → (n ≡ k → ⊥) → get_or (set rows (k - 1) v) (n - 1) d ≡ get_or rows (n - 1) d
  row_other n some ne = let l = there.0 in get_or-set_other rows (k - 1) (n - 1) v d (λ e. ne (omega arith))

module _ (f : Frame) (above : ℕ → ℕ → Bool) (holder : ℕ → ℕ) (accounts after : ℕ → Account) (t : Tables) (s : Sound f above holder accounts t) where
  abbrev at_time : ℕ → Tables
  at_time time = record { last = t.last; time = time; mobiles = t.mobiles; stations = t.stations; book = t.book }

  -- with another time, and accounts that are alike
  pub sound_again : (time : ℕ) → ((n : ℕ) → IsMobile f n → after n ≡ accounts n) → Sound f above holder after (at_time time)
  sound_again time same =
      record {
        book = s.book;
        mobile_rows = s.mobile_rows;
        station_rows = s.station_rows;
        different = s.different;
        housed = s.housed;
        phases = s.phases;
        mobiles = λ n is. subst (λ (a : Account). MobileLine t.book t.last (station_number t (mobile_at t n).station) holder (mobile_at t n).station (mobile_at t n).identity (mobile_at t n).state a) (sym (same n is)) (s.mobiles n is);
      }

  -- nothing but the time changes
  pub idle_kept : (time : ℕ) → ((n : ℕ) → IsMobile f n → after n ≡ accounts n) → Kept f above holder t after (at_time time) []
  idle_kept time same =
      record {
        holder_after = holder;
        sound = sound_again time same;
        air = λ m b is line. line;
        wire = λ m b is line. line;
        said_air = λ m h b is at. absurd h;
        said_wire = λ m h b is at. absurd h;
      }

  -- a mobile's step
  module _ (time m : ℕ) (is : IsMobile f m) (acted : MobileActed)
      (who : acted.row.identity ≡ (mobile_at t m).identity)
      (where_is : acted.row.station ≡ (mobile_at t m).station)
      (good : Good t.book t.last (station_number t (mobile_at t m).station) holder (mobile_at t m).station (mobile_at t m).identity (after m) acted)
      (others : (n : ℕ) → (n ≡ m → ⊥) → after n ≡ accounts n) where
    abbrev mobile_tables : Tables
    mobile_tables = (by_mobile time m t acted).tables

    abbrev LineOf : Mobile → Account → Type 0
    LineOf row a = MobileLine t.book t.last (station_number t row.station) holder row.station row.identity row.state a

    there : mobile_at mobile_tables m ≡ acted.row
    there = row_same t.mobiles f.mobile_count s.mobile_rows m is acted.row no_mobile

    elsewhere : (n : ℕ) → IsMobile f n → (n ≡ m → ⊥) → mobile_at mobile_tables n ≡ mobile_at t n
    elsewhere n some ne = row_other t.mobiles f.mobile_count s.mobile_rows m is acted.row no_mobile n some.0 ne

    same_identity : (n : ℕ) → IsMobile f n → (mobile_at mobile_tables n).identity ≡ (mobile_at t n).identity
    same_identity n some = ⊎_elim (λ e. subst (λ (k : ℕ). (mobile_at mobile_tables k).identity ≡ (mobile_at t k).identity) (sym e) (ap (λ (r : Mobile). r.identity) there ∙ who)) (λ ne. ap (λ (r : Mobile). r.identity) (elsewhere n some ne)) (cases_eq n m)

    same_station : (n : ℕ) → IsMobile f n → (mobile_at mobile_tables n).station ≡ (mobile_at t n).station
    same_station n some = ⊎_elim (λ e. subst (λ (k : ℕ). (mobile_at mobile_tables k).station ≡ (mobile_at t k).station) (sym e) (ap (λ (r : Mobile). r.station) there ∙ where_is)) (λ ne. ap (λ (r : Mobile). r.station) (elsewhere n some ne)) (cases_eq n m)

    its_line : LineOf acted.row (after m)
    its_line =
        subst (λ (b : ℕ). MobileLine t.book t.last (station_number t b) holder b acted.row.identity acted.row.state (after m)) (sym where_is)
        (subst (λ (i : ℕ). MobileLine t.book t.last (station_number t (mobile_at t m).station) holder (mobile_at t m).station i acted.row.state (after m)) (sym who) good.line)

    line_of : (n : ℕ) → IsMobile f n → LineOf (mobile_at mobile_tables n) (after n)
    line_of n some =
        ⊎_elim
        (λ e. subst (λ (k : ℕ). LineOf (mobile_at mobile_tables k) (after k)) (sym e) (subst (λ (r : Mobile). LineOf r (after m)) (sym there) its_line))
        (λ ne. subst (λ (r : Mobile). LineOf r (after n)) (sym (elsewhere n some ne)) (subst (λ (a : Account). LineOf (mobile_at t n) a) (sym (others n ne)) (s.mobiles n some)))
        (cases_eq n m)

    pub mobile_kept : Kept f above holder t after mobile_tables acted.said
    mobile_kept =
        record {
          holder_after = holder;
          sound = record {
            book = s.book;
            mobile_rows = length-set t.mobiles (m - 1) acted.row ∙ s.mobile_rows;
            station_rows = s.station_rows;
            different = λ k n one two e. s.different k n one two (sym (same_identity k one) ∙ e ∙ same_identity n two);
            housed = λ n some. subst (IsStation f) (sym (same_station n some)) (s.housed n some);
            phases = s.phases;
            mobiles = line_of;
          };
          air = λ x b is_b line. line;
          wire = λ x b is_b line. line;
          said_air = λ x h b is_b at. bare_air_line t.book t.last (station_number t b) holder b x.kind x (bare_said acted.said (Air x) good.said h);
          said_wire = λ x h b is_b at. bare_wire_line t.book t.last b x.kind x (bare_said acted.said (Wire x) good.said h);
        }

  -- a station's step
  module _ (time b : ℕ) (is : IsStation f b) (acted : StationActed)
      (good : StationGood t.book t.last holder b (station_number t b) acted)
      (same : (n : ℕ) → IsMobile f n → after n ≡ accounts n) where
    abbrev station_tables : Tables
    station_tables = (by_station time b t acted).tables

    abbrev holder' : ℕ → ℕ
    holder' = good.holder_after

    station_there : station_number station_tables b ≡ acted.row
    station_there = row_same t.stations f.station_count s.station_rows b is acted.row no_station

    station_elsewhere : (c : ℕ) → IsStation f c → (c ≡ b → ⊥) → station_number station_tables c ≡ station_number t c
    station_elsewhere c some ne = row_other t.stations f.station_count s.station_rows b is acted.row no_station c some.0 ne

    -- a grant of another station is none of b's
    not_of_b : (c grant : ℕ) → (c ≡ b → ⊥) → Own t.book t.last c grant → Own t.book t.last b grant → ⊥
    not_of_b c grant ne theirs ours = ne (sym theirs.station ∙ ours.station)

    untouched : (c grant : ℕ) → (c ≡ b → ⊥) → Own t.book t.last c grant → holder' grant ≡ holder grant
    untouched c grant ne theirs = good.others grant (not_of_b c grant ne theirs)

    abbrev GrownTo : Station → ℕ → Type 0
    GrownTo row c = Grown t.book t.last (station_number t c) holder t.book t.last row holder' c

    grown_here : GrownTo acted.row b
    grown_here = record { granted = λ grant reference rank g. g; rises = good.rises; named = good.named }

    grown_there : (c : ℕ) → (c ≡ b → ⊥) → GrownTo (station_number t c) c
    grown_there c ne =
        record {
          granted = λ grant reference rank g. g;
          rises = omega arith;
          named = λ grant identity n. record { its_own = n.its_own; under = n.under; taken = untouched c grant ne n.its_own ∙ n.taken; settled = n.settled };
        }

    grown : (c : ℕ) → IsStation f c → GrownTo (station_number station_tables c) c
    grown c some =
        ⊎_elim
        (λ e. subst (λ (k : ℕ). GrownTo (station_number station_tables k) k) (sym e) (subst (λ (r : Station). GrownTo r b) (sym station_there) grown_here))
        (λ ne. subst (λ (r : Station). GrownTo r c) (sym (station_elsewhere c some ne)) (grown_there c ne))
        (cases_eq c b)

    abbrev PhaseOf : Station → ℕ → Type 0
    PhaseOf row c = PhaseLine t.book t.last holder' c row.phase row.top

    phase_there : (c : ℕ) → (c ≡ b → ⊥) → (phase : Phase) (top : ℕ) → PhaseLine t.book t.last holder c phase top → PhaseLine t.book t.last holder' c phase top
    phase_there c ne Shut top line = tt
    phase_there c ne Free top line = tt
    phase_there c ne (Seized rank) top line = tt
    phase_there c ne (Granted rank deadline) top line = line
    phase_there c ne (Held rank identity) top line = (line.0, untouched c top ne line.0 ∙ line.1)
    phase_there c ne (Closing rank cause) top line = tt

    phase_of : (c : ℕ) → IsStation f c → PhaseOf (station_number station_tables c) c
    phase_of c some =
        ⊎_elim
        (λ e. subst (λ (k : ℕ). PhaseOf (station_number station_tables k) k) (sym e) (subst (λ (r : Station). PhaseOf r b) (sym station_there) good.phased))
        (λ ne. subst (λ (r : Station). PhaseOf r c) (sym (station_elsewhere c some ne)) (phase_there c ne (station_number t c).phase (station_number t c).top (s.phases c some)))
        (cases_eq c b)

    -- what b says on the air to its own cell has its line there
    air_of : (m : Message) → Says acted.said (Air m) → (c : ℕ) → IsStation f c → m.address ≡ cell_at c → AirLine t.book t.last (station_number station_tables c) holder' c m.kind m
    air_of m h c some at =
        ⊎_elim
        (λ plain. bare_air_line t.book t.last (station_number station_tables c) holder' c m.kind m plain)
        (λ line. let here = line.0 in
        let e : b ≡ c = omega arith in
        subst (λ (k : ℕ). AirLine t.book t.last (station_number station_tables k) holder' k m.kind m) e (subst (λ (r : Station). AirLine t.book t.last r holder' b m.kind m) (sym station_there) line.1))
        (good.air m h)

    pub station_kept : Kept f above holder t after station_tables acted.said
    station_kept =
        record {
          holder_after = holder';
          sound = record {
            book = s.book;
            mobile_rows = s.mobile_rows;
            station_rows = length-set t.stations (b - 1) acted.row ∙ s.station_rows;
            different = s.different;
            housed = s.housed;
            phases = phase_of;
            mobiles = λ n some. subst (λ (a : Account). MobileLine t.book t.last (station_number station_tables (mobile_at t n).station) holder' (mobile_at t n).station (mobile_at t n).identity (mobile_at t n).state a) (sym (same n some))
                (mobile_grown t.book t.last (station_number t (mobile_at t n).station) holder t.book t.last (station_number station_tables (mobile_at t n).station) holder' (mobile_at t n).station (grown (mobile_at t n).station (s.housed n some)) (mobile_at t n).identity (mobile_at t n).state (accounts n) (s.mobiles n some));
          };
          air = λ m c some line. air_grown t.book t.last (station_number t c) holder t.book t.last (station_number station_tables c) holder' c (grown c some) m.kind m line;
          wire = λ m c some line. line;
          said_air = air_of;
          said_wire = λ m h c some at. bare_wire_line t.book t.last c m.kind m (good.wire m h);
        }

  -- a step of the anchor
  module _ (time : ℕ) (acted : AnchorActed)
      (sound_after : BookSound above acted.book acted.last)
      (granted_kept : (grant c reference rank : ℕ) → GrantedTo t.book t.last grant c reference rank → GrantedTo acted.book acted.last grant c reference rank)
      (said_good : SaidGood acted)
      (same : (n : ℕ) → IsMobile f n → after n ≡ accounts n) where
    abbrev anchor_tables : Tables
    anchor_tables = (by_anchor time t acted).tables

    own_kept : (c grant : ℕ) → Own t.book t.last c grant → Own acted.book acted.last c grant
    own_kept c grant o =
        own (granted_kept grant c (grant_at t.book grant).reference (grant_at t.book grant).rank (record { least = o.least; most = o.most; for_station = o.station; for_reference = refl; for_rank = refl }))

    grown_book : (c : ℕ) → Grown t.book t.last (station_number t c) holder acted.book acted.last (station_number t c) holder c
    grown_book c =
        record {
          granted = λ grant reference rank g. granted_kept grant c reference rank g;
          rises = omega arith;
          named = λ grant identity n. record { its_own = own_kept c grant n.its_own; under = n.under; taken = n.taken; settled = n.settled };
        }

    phase_kept : (c : ℕ) (phase : Phase) (top : ℕ) → PhaseLine t.book t.last holder c phase top → PhaseLine acted.book acted.last holder c phase top
    phase_kept c Shut top line = tt
    phase_kept c Free top line = tt
    phase_kept c (Seized rank) top line = tt
    phase_kept c (Granted rank deadline) top line = own_kept c top line
    phase_kept c (Held rank identity) top line = (own_kept c top line.0, line.1)
    phase_kept c (Closing rank cause) top line = tt

    pub anchor_kept : Kept f above holder t after anchor_tables acted.said
    anchor_kept =
        record {
          holder_after = holder;
          sound = record {
            book = sound_after;
            mobile_rows = s.mobile_rows;
            station_rows = s.station_rows;
            different = s.different;
            housed = s.housed;
            phases = λ c some. phase_kept c (station_number t c).phase (station_number t c).top (s.phases c some);
            mobiles = λ n some. subst (λ (a : Account). MobileLine acted.book acted.last (station_number t (mobile_at t n).station) holder (mobile_at t n).station (mobile_at t n).identity (mobile_at t n).state a) (sym (same n some))
                (mobile_grown t.book t.last (station_number t (mobile_at t n).station) holder acted.book acted.last (station_number t (mobile_at t n).station) holder (mobile_at t n).station (grown_book (mobile_at t n).station) (mobile_at t n).identity (mobile_at t n).state (accounts n) (s.mobiles n some));
          };
          air = λ m c some line. air_grown t.book t.last (station_number t c) holder acted.book acted.last (station_number t c) holder c (grown_book c) m.kind m line;
          wire = λ m c some line. wire_grown t.book t.last (station_number t c) holder acted.book acted.last (station_number t c) holder c (grown_book c) m.kind m line;
          said_air = λ m h c some at. absurd (said_good.no_air m h);
          said_wire = λ m h c some at. subst (λ (k : ℕ). WireLine acted.book acted.last k m.kind m) at (said_good.wire m h);
        }
