use Rattle.std.proofs.Common.{◌≡◌, ap, ◌∙◌, rules}
use Rattle.messages.specs.Addresses.{cell_at}
use Rattle.call.specs.Effects.{nowhere, listening}
use Rattle.call.specs.World.{no_mobile}
use Rattle.dispatch.specs.Lent.{lent}
use Rattle.dispatch.proofs.Hearings.{heard_nowhere, heard_on_air, heard_on_wire}
use Rattle.dispatch.proofs.listen.listen.Goals as goal

pub returns-in-MobileHears : goal.returns-in-MobileHears
returns-in-MobileHears g c group =
    heard_on_air g.A.Carrier.says g.W.Carrier.says g.A.Carrier.hears g.W.Carrier.hears
    (ap (listening (lent group c.args.tables.now)) c.in-MobileHears.is)
    (c.cell_address.ensures ∙ ap (λ row. cell_at row.station) (c.row-station.ensures no_mobile))
    c.mobile_listener.ensures
    c.hear.ensures

pub returns-in-StationHearsAir : goal.returns-in-StationHearsAir
returns-in-StationHearsAir g c group =
    heard_on_air g.A.Carrier.says g.W.Carrier.says g.A.Carrier.hears g.W.Carrier.hears
    (ap (listening (lent group c.args.tables.now)) c.in-StationHearsAir.is)
    c.station_address-address.ensures
    c.station_address-address.ensures
    c.hear-in-StationHearsAir.ensures

pub returns-in-StationHearsWire : goal.returns-in-StationHearsWire
returns-in-StationHearsWire g c group =
    heard_on_wire g.A.Carrier.says g.W.Carrier.says g.A.Carrier.hears g.W.Carrier.hears
    (ap (listening (lent group c.args.tables.now)) c.in-StationHearsWire.is)
    c.station_address-address-in-StationHearsWire.ensures
    c.station_address-address-in-StationHearsWire.ensures
    c.hear-in-StationHearsWire.ensures

pub returns-in-AnchorHears : goal.returns-in-AnchorHears
returns-in-AnchorHears g c group =
    heard_on_wire g.A.Carrier.says g.W.Carrier.says g.A.Carrier.hears g.W.Carrier.hears
    (ap (listening (lent group c.args.tables.now)) c.in-AnchorHears.is)
    c.anchor_address.ensures
    c.anchor_address-in-AnchorHears.ensures
    c.hear-in-AnchorHears.ensures

pub returns-in-Ask : goal.returns-in-Ask
returns-in-Ask g c group =
    let quiet : listening (lent group c.args.tables.now) c.args.call.now ≡ nowhere = search rules in
    heard_nowhere g.A.Carrier.says g.W.Carrier.says g.A.Carrier.hears g.W.Carrier.hears quiet
