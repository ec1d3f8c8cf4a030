use Rattle.std.proofs.Common.{◌≡◌, [], None, Some, refl, sym, subst}
use Rattle.std.specs.Prelude.{IfSome}
use Rattle.cak_roll.specs.Answers.{second_fault}
use Rattle.cak_roll.specs.Standing.{StandsFor as TwinStandsFor}
use Rattle.twin_schedule.specs.World.{second_of}
use Rattle.twin_schedule.proofs.choosing.take_second.Goals as goal

pub returns-in-Ok-clause-stands : goal.returns-in-Ok-clause-stands
returns-in-Ok-clause-stands c = λ first users stands.
    subst (λ second. TwinStandsFor (record { first = first; second = second_of first second }) users
    c.second.new.self []) (sym c.in-Some.is)
    (rw c.in_ok-ckn.ensures at c.in-Ok.ensures.stands
    (record { first = first; second = first }) users [] stands)

pub returns-in-Err-clause-memory : goal.returns-in-Err-clause-memory
returns-in-Err-clause-memory c = λ free.
    let none = subst (λ second. IfSome second (λ keyed. second_fault c.args.twin.now keyed.ckn ≡ None))
    c.in-Some.is free in
    let some : second_fault c.args.twin.now c.in-Some.keyed.ckn ≡ Some c.in-Err.field-0 =
    rw c.in_ok-ckn.ensures at ((c.in-Err.ensures.refused c.in-Err.field-0).0 refl) in
    absurd (cc (none, some))
