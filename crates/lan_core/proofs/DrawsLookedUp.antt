-- What was drawn is looked up by the order of octets, and compared octet by octet.
use Rattle.std.proofs.Common.{◌≡◌, ◌∙◌, ℕ, ◌+◌, List, Option, Some, cond, sym, ap}
use Rattle.std.proofs.lemmas.Cmp.{nat_list_eq_equiv}
use Rattle.std.specs.Prelude.{nat_eq}
use Rattle.std.specs.Map.{lookup}
use Rattle.std.specs.BTreeMap.{is_at}
use Rattle.std.specs.Ordering.{nat_cmp}
use Rattle.std.specs.Cmp.Lexicographic.{slice_cmp, pointwise, texts_ties}
use Rattle.lan_base.specs.declared.address.Mi.{Mi}
use Rattle.lan_base.specs.Identifiers.{order, same_mi}
use Rattle.aes_block.specs.declared.secret.Secret.{Secret}
use Rattle.aes_block.specs.declared.secret.Secret.TheVariants.{S128, S256}
use Rattle.aes_block.specs.Secrets.{same_secret}
use Rattle.lan_core.specs.Standing.{Numbers, number_of_mi, number_of_sak}
use Rattle.lan_core.specs.Noting.{MiIsNoted}
use Rattle.lan_core.specs.inside.Drawing.{SakIsKept}

place-is : (a b : List ℕ) → is_at (slice_cmp nat_cmp a) b ≡ pointwise nat_eq b a
place-is a b = sym (texts_ties a b) ∙ nat_list_eq_equiv.symm a b

mi_place-is : (m n : Mi) → is_at (order m) n ≡ same_mi n m
mi_place-is m n = place-is m.0 n.0

abbrev pub number_at : List (List ℕ × ℕ) → List ℕ → Option ℕ
number_at entries octets = lookup (is_at (slice_cmp nat_cmp octets)) entries

-- what was looked up before, but for one list of octets, which has this number now
abbrev pub Keeps : ℕ → List ℕ → List (List ℕ × ℕ) → List (List ℕ × ℕ) → Type 0
Keeps number octets old new =
    (q : List ℕ) → number_at new q ≡ cond (is_at (slice_cmp nat_cmp octets) q) (Some number) (number_at old q)

pub here : (number : ℕ) (octets : List ℕ) (old new : List (List ℕ × ℕ)) → Keeps number octets old new → (q : List ℕ)
    → number_at new q ≡ cond (pointwise nat_eq q octets) (Some number) (number_at old q)
here number octets old new keeps q = keeps q ∙ ap (λ b. cond b (Some number) (number_at old q)) (place-is octets q)

narrow_saks : (number : ℕ) (octets : List ℕ) (old new : Numbers) → Keeps number octets old.narrow new.narrow → new.wide ≡ old.wide → (s : Secret)
    → number_of_sak new s ≡ cond (same_secret s (S128 octets)) (Some number) (number_of_sak old s)
narrow_saks number octets old new keeps wide (S128 q) = here number octets old.narrow new.narrow keeps q
narrow_saks number octets old new keeps wide (S256 q) = ap (λ entries. number_at entries q) wide

wide_saks : (number : ℕ) (octets : List ℕ) (old new : Numbers) → Keeps number octets old.wide new.wide → new.narrow ≡ old.narrow → (s : Secret)
    → number_of_sak new s ≡ cond (same_secret s (S256 octets)) (Some number) (number_of_sak old s)
wide_saks number octets old new keeps narrow (S128 q) = ap (λ entries. number_at entries q) narrow
wide_saks number octets old new keeps narrow (S256 q) = here number octets old.wide new.wide keeps q

pub narrow_kept : (number : ℕ) (octets : List ℕ) (old new : Numbers) → Keeps number octets old.narrow new.narrow → new.count ≡ old.count → new.mis ≡ old.mis → new.wide ≡ old.wide
    → SakIsKept number old new (S128 octets)
narrow_kept number octets old new keeps count mis wide =
    record { count = count; mis = λ m. ap (λ entries. lookup (is_at (order m)) entries) mis; saks = narrow_saks number octets old new keeps wide }

pub wide_kept : (number : ℕ) (octets : List ℕ) (old new : Numbers) → Keeps number octets old.wide new.wide → new.count ≡ old.count → new.mis ≡ old.mis → new.narrow ≡ old.narrow
    → SakIsKept number old new (S256 octets)
wide_kept number octets old new keeps count mis narrow =
    record { count = count; mis = λ m. ap (λ entries. lookup (is_at (order m)) entries) mis; saks = wide_saks number octets old new keeps narrow }

same_saks : (old new : Numbers) → new.narrow ≡ old.narrow → new.wide ≡ old.wide → (s : Secret) → number_of_sak new s ≡ number_of_sak old s
same_saks old new narrow wide (S128 q) = ap (λ entries. number_at entries q) narrow
same_saks old new narrow wide (S256 q) = ap (λ entries. number_at entries q) wide

pub mi_kept : (number : ℕ) (mi : Mi) (old new : Numbers) → number ≡ old.count + 1 → ((m : Mi) → number_of_mi new m ≡ cond (is_at (order mi) m) (Some number) (number_of_mi old m))
    → new.count ≡ number → new.narrow ≡ old.narrow → new.wide ≡ old.wide → MiIsNoted old new mi
mi_kept number mi old new next keeps count narrow wide =
    let first = ap (λ (n : ℕ). Some n) next in
    record {
      count = count ∙ next;
      mis = λ m. keeps m ∙ ap (λ b. cond b (Some number) (number_of_mi old m)) (mi_place-is mi m) ∙ ap (λ n. cond (same_mi m mi) n (number_of_mi old m)) first;
      saks = same_saks old new narrow wide;
    }
