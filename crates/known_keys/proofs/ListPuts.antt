-- What an insertion changes of the lists of numbers.
use Rattle.std.proofs.Common.{◌≡◌, ◌≢◌, ◌∙◌, ℕ, Bool, true, false, cond, List, [], Option, Some, None, refl, sym, ap}
use Rattle.std.specs.Prelude.{Result, Ok, Err, IfOk, OnOk, OnErr, unwrap_or}
use Rattle.std.specs.Map.{lookup}
use Rattle.std.specs.BTreeMap.{is_at}
use Rattle.std.specs.Ordering.{nat_cmp}
use Rattle.std.specs.Option.{option_cmp}
use Rattle.std.specs.declared.cmp.Ordering.{Ordering}
use Rattle.std.proofs.lemmas.Map.Lookups.{CmpEqualImpliesEq, exact_pairs, exact_unsigned, exact_bytes}
use Rattle.lan_base.specs.declared.address.Sci.{Sci}
use Rattle.lan_base.specs.declared.association_number.AssociationNumber.{AssociationNumber}
use Rattle.lan_base.specs.declared.association_number.AssociationNumber.TheVariants.{An0, An1, An2, An3}
use Rattle.lan_base.specs.AssociationNumbers.{number_of}
use Rattle.known_keys.specs.declared.sender.Sender.{Sender}
use Rattle.known_keys.specs.declared.sender.Sender.TheVariants.{Any, One}
use Rattle.known_keys.specs.Maps.{Place, Told, place_cmp, sci_cmp, sender_of, numbers_at}
use Rattle.known_keys.specs.inside.Steps.{with_place, IsPutAt}
use Rattle.known_keys.proofs.SakNumbers.{equal}

-- what an insertion says of what is found
abbrev pub Changes : {K X : Type 0} → (K → K → Ordering) → K → X → List (K × X) → List (K × X)
    → Type 0
Changes {K} cmp k x old new =
    (q : K) → lookup (is_at (cmp q)) new ≡ cond (is_at (cmp k) q) (Some x) (lookup (is_at (cmp q)) old)

module _ {K X : Type 0} (cmp : K → K → Ordering) (exact : CmpEqualImpliesEq cmp) where
  pub untouched : (k : K) (x : X) (old new : List (K × X)) → Changes cmp k x old new → (q : K)
      → q ≢ k → lookup (is_at (cmp q)) new ≡ lookup (is_at (cmp q)) old
  untouched k x old new changes q apart = go (is_at (cmp k) q) refl
    where
      go : (b : Bool) → is_at (cmp k) q ≡ b
          → lookup (is_at (cmp q)) new ≡ lookup (is_at (cmp q)) old
      go true e = absurd (apart (sym (exact k q (equal (cmp k q) e))))
      go false e = changes q ∙ ap (λ b. cond b (Some x) (lookup (is_at (cmp q)) old)) e

exact_sci : CmpEqualImpliesEq sci_cmp
exact_sci a b e = ap (λ (xs : List ℕ). sci_of xs) (exact_bytes a.0 b.0 e)
  where
    sci_of : List ℕ → Sci
    sci_of xs = record { 0 = xs }

exact_sender : CmpEqualImpliesEq (option_cmp sci_cmp)
exact_sender None None e = refl
exact_sender None (Some b) e = absurd (cc e)
exact_sender (Some a) None e = absurd (cc e)
exact_sender (Some a) (Some b) e = ap (λ (s : Sci). Some s) (exact_sci a b e)

exact_place : CmpEqualImpliesEq place_cmp
exact_place a b e = exact_pairs nat_cmp (option_cmp sci_cmp) exact_unsigned exact_sender a b e

-- a list at a place became another
pub put_at : (place : Place) (number : ℕ) (old new : Told) (then : List ℕ)
    → Changes place_cmp place then old new → lookup (is_at (place_cmp place)) new ≡ Some then
    → then ≡ with_place number (numbers_at old place) → IsPutAt place number old new
put_at place number old new then changes now put = record {
  here = ap (λ (o : Option (List ℕ)). unwrap_or o []) now ∙ put;
  others = λ q apart. ap (λ (o : Option (List ℕ)). unwrap_or o [])
      (untouched place_cmp exact_place place then old new changes q apart);
}

-- ---- by sender and association number

pub an-is : (a b : AssociationNumber) → number_of a ≡ number_of b → a ≡ b
an-is An0 An0 e = refl
an-is An1 An1 e = refl
an-is An2 An2 e = refl
an-is An3 An3 e = refl
an-is An0 An1 e = absurd (cc e)
an-is An0 An2 e = absurd (cc e)
an-is An0 An3 e = absurd (cc e)
an-is An1 An0 e = absurd (cc e)
an-is An1 An2 e = absurd (cc e)
an-is An1 An3 e = absurd (cc e)
an-is An2 An0 e = absurd (cc e)
an-is An2 An1 e = absurd (cc e)
an-is An2 An3 e = absurd (cc e)
an-is An3 An0 e = absurd (cc e)
an-is An3 An1 e = absurd (cc e)
an-is An3 An2 e = absurd (cc e)

sender-is : (s t : Sender) → sender_of s ≡ sender_of t → s ≡ t
sender-is Any Any e = refl
sender-is (One a) (One b) e = ap (λ (x : Sci). One x) (let same : a ≡ b = cc e in same)
sender-is Any (One b) e = absurd (cc e)
sender-is (One a) Any e = absurd (cc e)

pub on_ok : {T E P Q : Type 0} (r : Result T E) → (P → Q) → OnOk r P → OnOk r Q
on_ok (Ok x) f p = f p
on_ok (Err e) f p = tt

pub if_ok : {T E : Type 0} {P Q : T → Type 0} (r : Result T E) → ((x : T) → P x → Q x) → IfOk r P → IfOk r Q
if_ok (Ok x) f p = f x p
if_ok (Err e) f p = tt

pub on_err : {T E P Q : Type 0} (r : Result T E) → (P → Q) → OnErr r P → OnErr r Q
on_err (Ok x) f p = tt
on_err (Err e) f p = f p
