use Rattle.std.proofs.Common.{◌≡◌, ◌∙◌, ℕ, ap}
use Rattle.std.specs.Prelude.{unwrap_or}
use Rattle.lan_base.specs.declared.address.Sci.{Sci}
use Rattle.rollover_notes.specs.Counted.{with_late}
use Rattle.rollover_notes.specs.inside.Putting.{lates_at}
use Rattle.rollover_notes.proofs.Puts.{put-more}
use Rattle.rollover_notes.proofs.walk.count_late.Goals as goal

pub returns-in_ok-insert : goal.returns-in_ok-insert
returns-in_ok-insert c =
    let frame = c.args.frame.now in
    let at : ℕ × Sci = (frame.key, frame.sci) in
    let old = c.args.counts.now.entries in
    let before : c.unwrap_or-before.result ≡ lates_at old at =
    c.unwrap_or-before.ensures
    ∙ (λ t. unwrap_or ((c.copied.ensures ∙ c.get.ensures.value) t) (c.none.ensures t)) in
    put-more at c.with.result frame.packet old c.insert.new.self.entries c.args.is_late
    (c.with.ensures ∙ ap (with_late frame.packet) before)
    (λ q. c.in_ok-insert.ensures.updates.0 q) c.if-is_late.true
