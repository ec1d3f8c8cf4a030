use Rattle.std.proofs.Common.{◌≡◌, None, rules}
use Rattle.rollover_program.proofs.Joining.{front_ends, goes_on}
use Rattle.rollover_program.proofs.key_text.KeyTextSource.read.Goals as goal

pub returns-then-count-gt0-clause-moved : goal.returns-then-count-gt0-clause-moved
returns-then-count-gt0-clause-moved g c =
    let old = c.args.self.now in
    let none : old.seam ≡ None = search rules in
    rw none (goes_on old.ends_line _ _ _ _ c.in_ok-count.ensures.moved
    (front_ends c.in_ok-count.count old.ends_line c.read.new.into (search rules) c.in_ok-count.ensures.fits))
