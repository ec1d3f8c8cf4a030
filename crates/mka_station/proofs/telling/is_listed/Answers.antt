use Rattle.std.proofs.Common.{◌∙◌, ◌&&◌, Bool, sym, arith}
use Rattle.std.proofs.Math.Numerals.{add-one}
use Rattle.std.proofs.lemmas.List.{take_all}
use Rattle.mkpdu_codec.specs.declared.peer.Peer.{Peer}
use Rattle.lan_base.specs.Identifiers.{same_mi}
use Rattle.peer_lists.specs.Histories.{recent}
use Rattle.mka_station.proofs.Filters.{any-first, any-more}
use Rattle.mka_station.proofs.telling.is_listed.Goals as goal

pub returns-then-is_listing : goal.returns-then-is_listing
returns-then-is_listing c = λ own h s.
    let q : Peer → Bool = λ peer. same_mi peer.mi c.args.mi.now && recent h peer.mn in
    sym (any-first q c.args.pairs.now c.loop-pair.pair-index _ (omega arith) (sym (c.is_listing.ensures own h s) ∙ c.if-is_listing.true))

pub loop-pair-preserved : goal.loop-pair-preserved
loop-pair-preserved c = λ own h s.
    let q : Peer → Bool = λ peer. same_mi peer.mi c.args.mi.now && recent h peer.mn in
    rw add-one (any-more q c.args.pairs.now c.loop-pair.pair-index _ (omega arith) (c.loop-pair.invariant own h s) (sym (c.is_listing.ensures own h s) ∙ c.if-is_listing.false))

pub returns : goal.returns
returns c = λ own h s. sym (rw (take_all c.loop-pair.pair-index c.args.pairs.now (omega arith)) at (c.loop-pair.invariant own h s))
