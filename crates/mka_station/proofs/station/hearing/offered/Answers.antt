use Rattle.std.proofs.Common.{◌∙◌, ◌&&◌, ap, sym}
use Rattle.std.specs.List.{list_any}
use Rattle.lan_base.specs.Identifiers.{same_mi}
use Rattle.peer_lists.specs.Histories.{recent}
use Rattle.mka_station.proofs.Takes.{offered-is}
use Rattle.mka_station.proofs.station.hearing.offered.Goals as goal

pub returns : goal.returns
returns c = λ own h s.
    sym (offered-is c.args.outcome h c.args.mi.now c.args.server c.args.announcement.now c.in-Some.given _ _ (sym c.is_accepted.ensures ∙ c.if-not-is_accepted.false) c.in-Some.is (c.is_listed.ensures own h s ∙ ap (list_any (λ peer. same_mi peer.mi c.args.mi.now && recent h peer.mn)) c.as_slice.ensures.value) c.is_server.ensures)
