use Rattle.std.proofs.Common.{◌≡◌, ◌∙◌, sym, ap}
use Rattle.std.specs.Prelude.{Some, unwrap_or}
use Rattle.rollover_notes.specs.declared.counts.Counts.{Counts}
use Rattle.rollover_notes.specs.declared.timing.Timing.{Timing}
use Rattle.rollover_notes.specs.Counted.{counted, no_frames, with_early, with_joining}
use Rattle.rollover_notes.specs.inside.Walking.{counts_at}
use Rattle.rollover_notes.proofs.Puts.{put-told}
use Rattle.rollover_notes.proofs.counts.count.Goals as goal

pub returns-in_ok-insert-in-Early : goal.returns-in_ok-insert-in-Early
returns-in_ok-insert-in-Early c =
    let old = c.args.counts.now.entries in
    let before : c.unwrap_or-before.result ≡ unwrap_or (counts_at old c.args.at) no_frames =
    c.unwrap_or-before.ensures
    ∙ (λ t. unwrap_or ((c.copied.ensures ∙ c.get.ensures.value) t) (c.none.ensures t)) in
    put-told c.args.at c.with_early.result c.args.packet c.args.timing old c.insert.new.self.entries
    (ap (λ (x : Counts). Some x) (c.with_early.ensures ∙ ap (with_early c.args.packet) before)
    ∙ ap (λ (x : Timing). counted (counts_at old c.args.at) c.args.packet x) (sym c.in-Early.is))
    (λ q. c.in_ok-insert-in-Early.ensures.updates.0 q)

pub returns-in_ok-insert-in-Joining : goal.returns-in_ok-insert-in-Joining
returns-in_ok-insert-in-Joining c =
    let old = c.args.counts.now.entries in
    let before : c.unwrap_or-before.result ≡ unwrap_or (counts_at old c.args.at) no_frames =
    c.unwrap_or-before.ensures
    ∙ (λ t. unwrap_or ((c.copied.ensures ∙ c.get.ensures.value) t) (c.none.ensures t)) in
    put-told c.args.at c.with_joining.result c.args.packet c.args.timing old c.insert-in-Joining.new.self.entries
    (ap (λ (x : Counts). Some x) (c.with_joining.ensures ∙ ap (with_joining c.args.packet) before)
    ∙ ap (λ (x : Timing). counted (counts_at old c.args.at) c.args.packet x) (sym c.in-Joining.is))
    (λ q. c.in_ok-insert-in-Joining.ensures.updates.0 q)
