-- What is kept stands for what was noted.
use Rattle.std.proofs.Common.{◌≡◌, ◌∙◌, ℕ, true, Bool, List, [], ◌∷◌, ◌++◌, cond, refl, sym, ap, subst, inl, inr}
use Rattle.std.specs.Prelude.{nat_eq, ◌||◌}
use Rattle.std.specs.BTreeMap.{is_at}
use Rattle.std.specs.Ordering.{nat_cmp}
use Rattle.std.specs.Cmp.Lexicographic.{pointwise, slice_cmp, texts_ties}
use Rattle.std.proofs.lemmas.Slice.Eq.{bytes_eq-Decides}
use Rattle.std.proofs.lemmas.Bool.{cases_Bool}
use Rattle.aes_block.specs.declared.secret.Secret.{Secret}
use Rattle.aes_block.specs.Secrets.{same_secret}
use Rattle.aes_block.proofs.Public.{same_secret-is}
use Rattle.known_saks.specs.Known.{mark, is_mark, is_kept, is_known, StandsFor}

pub nothing : StandsFor [] []
nothing = record { kept = λ octets. refl }

-- whether these octets are the ones that were added, or were kept before
either : (b old : Bool) → cond b true old ≡ (b || old)
either b old = elim b as (λ v. cond v true old ≡ (v || old)) [ true ↦ refl | _ ↦ refl ]

-- the marks are those before and this one
abbrev pub Keeps : List ℕ → List (List ℕ) → List (List ℕ) → Type 0
Keeps added old new = (octets : List ℕ) → is_kept new octets ≡ cond (is_at (slice_cmp nat_cmp added) octets) true (is_kept old octets)

pub noted_more : (sak : Secret) (noted : List Secret) (old new : List (List ℕ)) → Keeps (mark sak) old new
    → StandsFor old noted → StandsFor new (sak ∷ noted)
noted_more sak noted old new keeps stands = record {
  kept = λ octets. keeps octets
      ∙ (ap (λ b. cond b true (is_kept old octets)) (sym (texts_ties (mark sak) octets))
      ∙ (either (pointwise nat_eq (mark sak) octets) (is_kept old octets)
      ∙ ap (λ b. pointwise nat_eq (mark sak) octets || b) (stands.kept octets)));
}

-- the same of octets that are the mark
pub noted_as : (octets : List ℕ) (sak : Secret) (noted : List Secret) (old new : List (List ℕ)) → octets ≡ mark sak
    → Keeps octets old new → StandsFor old noted → StandsFor new (sak ∷ noted)
noted_as octets sak noted old new e keeps stands =
    noted_more sak noted old new (subst (λ o. Keeps o old new) e keeps) stands

-- what is kept is known
pub kept_known : (octets : List ℕ) (sak : Secret) (noted : List Secret) (marks : List (List ℕ)) → octets ≡ mark sak
    → StandsFor marks noted → is_kept marks octets ≡ is_known noted sak
kept_known octets sak noted marks e stands = stands.kept octets ∙ ap (is_mark noted) e

first_known : (earlier : List Secret) (sak : Secret) → is_known (sak ∷ earlier) sak ≡ true
first_known earlier sak = ap (λ b. b || is_mark earlier (mark sak)) ((bytes_eq-Decides (mark sak) (mark sak)).1 refl)

pub noted_known : (later earlier : List Secret) (sak : Secret) → is_known (later ++ sak ∷ earlier) sak ≡ true
noted_known [] earlier sak = first_known earlier sak
noted_known (one ∷ later) earlier sak =
    elim (cases_Bool (pointwise nat_eq (mark one) (mark sak))) [
      | inl is ↦ rw is refl
      | inr is ↦ rw is (noted_known later earlier sak)
    ]

pub same_known : (later earlier : List Secret) (sak again : Secret) → same_secret sak again ≡ true
    → is_known (later ++ sak ∷ earlier) again ≡ true
same_known later earlier sak again same =
    rw (sym (same_secret-is sak again same)) (noted_known later earlier sak)
