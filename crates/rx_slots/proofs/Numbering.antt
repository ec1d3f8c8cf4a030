-- Association numbers are the same exactly where they are equal.
use Rattle.std.proofs.Common.{◌≡◌, ◌≢◌, Bool, true, false, Some, refl, sym, ap, ◌∙◌, eq-eqb, eqb-true}
use Rattle.std.proofs.lemmas.Bool.{ne_eqb, eqb-false}
use Rattle.lan_base.specs.declared.association_number.AssociationNumber.{AssociationNumber}
use Rattle.lan_base.specs.AssociationNumbers.{number_of, numbered, same_an}
use Rattle.lan_base.proofs.Public.{numbered-number_of}

some-equal : (a b : AssociationNumber) → numbered (number_of a) ≡ numbered (number_of b) → a ≡ b
some-equal a b e = let same : Some a ≡ Some b = sym (numbered-number_of a) ∙ e ∙ numbered-number_of b in cc

pub same_an-equal : (a b : AssociationNumber) → same_an a b ≡ true → a ≡ b
same_an-equal a b h = some-equal a b (ap numbered (eqb-true (number_of a) (number_of b) h))

pub same_an-itself : (a : AssociationNumber) → same_an a a ≡ true
same_an-itself a = eq-eqb (number_of a) (number_of a) refl

pub same_an-of : (a b : AssociationNumber) → a ≡ b → same_an a b ≡ true
same_an-of a b e = ap (same_an a) (sym e) ∙ same_an-itself a

pub other_an : (a b : AssociationNumber) → a ≢ b → same_an a b ≡ false
other_an a b h = ne_eqb (number_of a) (number_of b) (λ e. h (some-equal a b (ap numbered e)))

pub same_an-not : (a b : AssociationNumber) → same_an a b ≡ false → a ≢ b
same_an-not a b h e = eqb-false (number_of a) (number_of b) h (ap number_of e)

pub same_an-swap : (a b : AssociationNumber) → same_an a b ≡ same_an b a
same_an-swap a b = go (same_an a b) refl (same_an b a) refl where
  go : (s : Bool) → same_an a b ≡ s → (t : Bool) → same_an b a ≡ t → same_an a b ≡ same_an b a
  go true e t f = e ∙ sym (same_an-of b a (sym (same_an-equal a b e)))
  go false e true f = absurd (same_an-not a b e (sym (same_an-equal b a f)))
  go false e false f = e ∙ sym f
