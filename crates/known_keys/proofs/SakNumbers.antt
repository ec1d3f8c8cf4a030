-- The numbers of SAKs are looked up by the order of octets, and compared octet by octet.
use Rattle.std.proofs.Common.{◌≡◌, ◌∙◌, ℕ, true, List, Some, cond, refl, sym, ap}
use Rattle.std.specs.Prelude.{nat_eq}
use Rattle.std.specs.BTreeMap.{is_at}
use Rattle.std.specs.Ordering.{nat_cmp, is_eq}
use Rattle.std.specs.Cmp.Lexicographic.{slice_cmp, pointwise, texts_ties}
use Rattle.std.specs.declared.cmp.Ordering.{Ordering}
use Rattle.std.specs.declared.cmp.Ordering.TheVariants.{Less, Equal, Greater}
use Rattle.aes_block.specs.declared.secret.Secret.{Secret}
use Rattle.aes_block.specs.declared.secret.Secret.TheVariants.{S128, S256}
use Rattle.aes_block.specs.Secrets.{same_secret}
use Rattle.known_keys.specs.Maps.{Numbers, ByOctets, number_at, number_by}

pub equal : (o : Ordering) → is_eq o ≡ true → o ≡ Equal
equal Less e = absurd (cc e)
equal Equal e = refl
equal Greater e = absurd (cc e)

-- what was looked up before, but for one list of octets, which has this number now
abbrev pub Keeps : ℕ → List ℕ → ByOctets → ByOctets → Type 0
Keeps number octets old new =
    (q : List ℕ) → number_at new q ≡ cond (is_at (slice_cmp nat_cmp octets) q) (Some number) (number_at old q)

here : (number : ℕ) (octets : List ℕ) (old new : ByOctets) → Keeps number octets old new → (q : List ℕ)
    → number_at new q ≡ cond (pointwise nat_eq octets q) (Some number) (number_at old q)
here number octets old new keeps q = keeps q ∙ ap (λ b. cond b (Some number) (number_at old q)) (sym (texts_ties octets q))

pub narrow_put : (number : ℕ) (octets : List ℕ) (old new : Numbers) → Keeps number octets old.narrow new.narrow
    → new.wide ≡ old.wide → (s : Secret)
    → number_by new s ≡ cond (same_secret (S128 octets) s) (Some number) (number_by old s)
narrow_put number octets old new keeps wide (S128 q) = here number octets old.narrow new.narrow keeps q
narrow_put number octets old new keeps wide (S256 q) = ap (λ (entries : ByOctets). number_at entries q) wide

pub wide_put : (number : ℕ) (octets : List ℕ) (old new : Numbers) → Keeps number octets old.wide new.wide
    → new.narrow ≡ old.narrow → (s : Secret)
    → number_by new s ≡ cond (same_secret (S256 octets) s) (Some number) (number_by old s)
wide_put number octets old new keeps narrow (S128 q) = ap (λ (entries : ByOctets). number_at entries q) narrow
wide_put number octets old new keeps narrow (S256 q) = here number octets old.wide new.wide keeps q
