use Rattle.std.proofs.Common.{◌++◌}
use Rattle.std.proofs.lemmas.Result.{err_from_is_err_and}
use Rattle.capture_audit.specs.Before.{gift_entries, shown_entries}
use Rattle.capture_audit.proofs.Handling.{handled, overfull, unwraps}
use Rattle.capture_audit.proofs.auditor.Auditor.right_mkpdu.Goals as goal

pub returns-in_err-handed-clause-handles : goal.returns-in_err-handed-clause-handles
returns-in_err-handed-clause-handles c = λ groups told rights spelled holds few.
    let p = err_from_is_err_and c.from_residual.result c.from_residual.ensures.1 in
    let need = c.requires.group in
    let is = unwraps c.args.self.now.groups c.args.group c.args.spelled.now c.given_key-gift.result need.0 need.1
    c.given_key-gift.ensures in
    let hands = c.in_err-handed.ensures.hands told holds.known few in
    rw (p.1, p.2) (overfull groups told rights spelled c.args.packet c.args.nanos c.args.group c.args.spelled.now
    c.given_key-gift.result c.args.self.now c.hand.new.known c.in_err-handed.field-0.0
    (rw holds.groups_are at is) hands)

pub returns-clause-handles : goal.returns-clause-handles
returns-clause-handles c = λ groups told rights spelled holds few.
    let need = c.requires.group in
    let is = unwraps c.args.self.now.groups c.args.group c.args.spelled.now c.given_key-gift.result need.0 need.1
    c.given_key-gift.ensures in
    let hands = c.in_ok-handed.ensures.hands told holds.known few in
    let packet = c.args.packet in
    let group = c.args.group in
    let gift = c.given_key-gift.result in
    let shown = c.shown_keys-shown.result in
    let one = c.in_ok-show.ensures.shows (gift_entries packet c.args.nanos group gift ++ told) packet hands.1 in
    let two = c.in_ok-show-2.ensures.shows (shown_entries packet c.args.nanos group shown.latest
    ++ (gift_entries packet c.args.nanos group gift ++ told)) packet one in
    let noted = c.in_ok-novelty.ensures.noted spelled holds.members in
    handled groups told rights spelled packet c.args.nanos group c.args.spelled.now gift c.in_ok-handed.handed
    c.in_ok-novelty.novelty shown _ (rw holds.groups_are at is) c.shown_keys-shown.ensures hands.0 noted.0
    holds.groups_are two holds.uses noted.1 hands.2
