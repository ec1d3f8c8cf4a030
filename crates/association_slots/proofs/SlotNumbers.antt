-- Association numbers are told apart by their numbers, which are the places of their slots.
use Rattle.std.proofs.Common.{◌≡◌, ◌≢◌, ◌⊎◌, refl, sym, ap, ◌∙◌, inl, inr}
use mathlib.Core.Logic.{dite}
use native.Mathlib.Decide.{ℕ_discrete}
use Rattle.lan_base.specs.AssociationNumbers.{number_of}
use Rattle.lan_base.specs.declared.association_number.AssociationNumber.{AssociationNumber}
use Rattle.lan_base.specs.declared.association_number.AssociationNumber.TheVariants.{An0, An1, An2, An3}
use Rattle.association_slots.specs.Words.{an_of}

pub an_back : (a : AssociationNumber) → an_of (number_of a) ≡ a
an_back An0 = refl
an_back An1 = refl
an_back An2 = refl
an_back An3 = refl

pub same_number : (a b : AssociationNumber) → number_of a ≡ number_of b → a ≡ b
same_number a b e = sym (an_back a) ∙ (ap an_of e ∙ an_back b)

pub same_or_apart : (a b : AssociationNumber) → (a ≡ b) ⊎ (number_of a ≢ number_of b)
same_or_apart a b = dite (ℕ_discrete (number_of a) (number_of b)) (λ e. inl (same_number a b e)) (λ ne. inr ne)
