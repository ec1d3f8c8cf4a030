-- Association numbers are the same exactly where they are equal, and three in turn are three.
use Rattle.std.proofs.Common.{◌≡◌, ℕ, ◌≢◌, true, false, ◌||◌, Some, refl, ap, sym, ◌∙◌, arith}
use Rattle.std.proofs.lemmas.Bool.{eqb-true, eq-eqb}
use Rattle.std.specs.Prelude.{◌==◌}
use Rattle.lan_base.specs.declared.association_number.AssociationNumber.{AssociationNumber}
use Rattle.lan_base.specs.declared.association_number.AssociationNumber.TheVariants.{An0, An1, An2, An3}
use Rattle.lan_base.specs.AssociationNumbers.{number_of, numbered, same_an, behind}
use Rattle.lan_base.proofs.Public.{numbered-number_of}

pub same-an-equal : (a b : AssociationNumber) → same_an a b ≡ true → a ≡ b
same-an-equal a b t =
    let both : Some a ≡ Some b = sym (numbered-number_of a) ∙ ap numbered (eqb-true (number_of a) (number_of b) t) ∙ numbered-number_of b in cc (both)

pub same-an-itself : (a : AssociationNumber) → same_an a a ≡ true
same-an-itself a = eq-eqb (number_of a) (number_of a) refl

pub other-an : (a b : AssociationNumber) → same_an a b ≡ false → a ≢ b
other-an a b other = λ is. let same : same_an a b ≡ true = rw is (same-an-itself b) in absurd (cc (same, other))

-- two numbers are not three
two-leave-one : (x y i j k : ℕ) → (i == j) ≡ false → (i == k) ≡ false → (j == k) ≡ false → ((x == i) || ((y == i) || false)) ≡ true → ((x == j) || ((y == j) || false)) ≡ true
    → ((x == k) || ((y == k) || false)) ≡ true → ⊥
two-leave-one x y i j k a b c first second third = absurd (grind (arith, a, b, c, first, second, third))

-- of three numbers in turn, two keys leave one
pub leave-one : (x y a : AssociationNumber) → (same_an x a || (same_an y a || false)) ≡ true → (same_an x (behind a) || (same_an y (behind a) || false)) ≡ true
    → (same_an x (behind (behind a)) || (same_an y (behind (behind a)) || false)) ≡ true → ⊥
leave-one x y An0 = two-leave-one (number_of x) (number_of y) 0 1 2 refl refl refl
leave-one x y An1 = two-leave-one (number_of x) (number_of y) 1 2 3 refl refl refl
leave-one x y An2 = two-leave-one (number_of x) (number_of y) 2 3 0 refl refl refl
leave-one x y An3 = two-leave-one (number_of x) (number_of y) 3 0 1 refl refl refl
