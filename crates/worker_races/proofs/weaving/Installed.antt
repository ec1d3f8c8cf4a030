-- The keys that stations installed, by the key that transmits, in a run with a part behind it, and in the
-- same without the part's claims.
use Rattle.std.proofs.Common.{◌≡◌, ℕ, List, [], ◌∷◌, Option, Some, None, subst, inl, inr}
use Rattle.std.specs.Prelude.{option_and_then}
use Rattle.std.proofs.lemmas.Bool.{cases_Bool}
use Rattle.lan_base.specs.declared.frame.UserFrame.{UserFrame}
use Rattle.sak_exchange.specs.declared.held_key.Key.{Key}
use Rattle.sak_exchange.specs.Held.{transmitting}
use Rattle.lan_core.specs.declared.settings.Settings.{Settings}
use Rattle.lan_core.specs.Run.{Run, Happening}
use Rattle.lan_core.specs.Lives.{Life, life, keys_in}
use Rattle.lan_core.specs.Legal.{IsStepped}
use Rattle.lan_core.specs.Parts.{followed_by, is_claim, without_claims, AreAlike}
use Rattle.lan_core.proofs.Public.{alike-event, claim-alike, stepped-front}
use Rattle.group_safety.proofs.Public.{received-installed, transmitting-last}
use Rattle.worker_races.specs.merge.Sealing.{HasInLife, HasInstalled}

-- the key that transmits was installed
pub in-life : (k : Key) (o : Option Life) → option_and_then (λ l. transmitting (keys_in l)) o ≡ Some k → HasInLife k o
in-life k None is = absurd (cc is)
in-life k (Some l) is = received-installed (keys_in l) k (transmitting-last (keys_in l) k is).1

pub installed-now : (settings : Settings) (s : ℕ) (k : Key) (q : Run) → HasInLife k (life settings s q) → HasInstalled settings s k q
unfolding life
installed-now settings s k [] has = absurd has
installed-now settings s k (x ∷ q) has = inl has

pub installed-later : (settings : Settings) (s : ℕ) (k : Key) (part : List Happening) (q : Run) → HasInstalled settings s k q
    → HasInstalled settings s k (followed_by part q)
installed-later settings s k [] q has = has
installed-later settings s k (x ∷ part) q has = installed-later settings s k part (x ∷ q) (inr has)

-- ---- control's events alone

module _ (settings : Settings) (users : List UserFrame) (s : ℕ) (k : Key) where
  installed-alike : (q c : Run) → AreAlike settings q c → HasInLife k (life settings s q) → HasInLife k (life settings s c)
  installed-alike q c alike has = subst (HasInLife k) (alike.lives s) has

  -- what was installed with the claims was so without them
  pub installed-without : (part : List Happening) (q c : Run) → IsStepped settings users (followed_by part q) → AreAlike settings q c
      → (HasInstalled settings s k q → HasInstalled settings s k c)
      → HasInstalled settings s k (followed_by part q) → HasInstalled settings s k (followed_by (without_claims part) c)
  installed-without [] q c stepped alike on has = on has
  installed-without (x ∷ part) q c stepped alike on has = elim (cases_Bool (is_claim x.event)) [
    | inl claim ↦ (let then = claim-alike settings users x q c (stepped-front settings users part (x ∷ q) stepped).0 claim alike in
        rw claim (installed-without part (x ∷ q) c stepped then
        (λ h. elim h [ inl now ↦ installed-now settings s k c (installed-alike (x ∷ q) c then now) | inr before ↦ on before ]) has))
    | inr other ↦ (let then = alike-event settings q c alike x in
        rw other (installed-without part (x ∷ q) (x ∷ c) stepped then
        (λ h. elim h [ inl now ↦ inl (installed-alike (x ∷ q) (x ∷ c) then now) | inr before ↦ inr (on before) ]) has))
  ]
