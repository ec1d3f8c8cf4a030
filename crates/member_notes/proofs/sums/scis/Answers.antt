use Rattle.std.proofs.Common.{◌∙◌, ◌<◌, ◌≤◌, length, map, ap}
use Rattle.std.specs.Ordering.{eq_by_cmp}
use Rattle.std.specs.Set.{is_member}
use Rattle.std.proofs.lemmas.List.{take_all}
use Rattle.std.proofs.lemmas.Map.Keys.{IsDistinct-from_sorted}
use Rattle.std.proofs.lemmas.Map.Made.{length-from_keys}
use Rattle.member_notes.specs.Facts.{station_cmp, station_of}
use Rattle.member_notes.proofs.Totals.{seen-more, stations}
use Rattle.member_notes.proofs.sums.scis.Goals as goal

pub loop-member-preserved : goal.loop-member-preserved
loop-member-preserved c =
    let ms = c.args.members.now in
    let i = c.loop-member.member-index in
    let within : i < length ms = c.loop-member-test.true in
    seen-more c.loop-member.seen.keys c.insert.new.self.keys ms i _ within (λ q. c.loop-member.invariant q)
    (λ q. c.in_ok-insert.ensures.updates.0 q)

pub returns : goal.returns
returns c =
    let ms = c.args.members.now in
    let i = c.loop-member.member-index in
    let keys = c.loop-member.seen.keys in
    let past : length ms ≤ i = c.loop-member-test.false in
    c.len.ensures.len
    ∙ length-from_keys stations keys (map station_of ms) (IsDistinct-from_sorted station_cmp keys c.len.ensures.ordered)
    (λ q. c.loop-member.invariant q
    ∙ ap (λ ns. is_member (eq_by_cmp station_cmp) (map station_of ns) q) (take_all i ms past))
