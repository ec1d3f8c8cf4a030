-- A front of a history: its keys, and what is broken in it.
use Rattle.std.proofs.Common.{◌≡◌, ◌≢◌, ◌∙◌, ◌<◌, ◌≤◌, ◌⊎◌, inl, inr, ℕ, Bool, cond, List, [], ◌∷◌, ◌++◌, Option, Some, None, refl, sym, ap, arith, append_assoc}
use Rattle.std.specs.Prelude.{option_map}
use Rattle.std.proofs.lemmas.Bool.{ne_eqb, cases_eq, cases_lt}
use Rattle.lan_base.specs.declared.key_id.KeyId.{KeyId}
use Rattle.aes_block.specs.declared.secret.Secret.{Secret}
use Rattle.least_pairs.specs.Pairs.{Noted, Breaks, IsFront, IsJudged}
use Rattle.known_keys.specs.declared.giving.Giving.TheVariants.{Key, Without}
use Rattle.known_keys.specs.declared.named.Named.{Named}
use Rattle.known_keys.specs.Fronts.{IsBehind, IsWithin}
use Rattle.known_keys.specs.History.{Entry, Set, Gave, Showed, Strange, keys, sak_of}
use Rattle.known_keys.specs.Known.{number_told}
use Rattle.known_keys.specs.Numbered.{number_in, with_key, with_number}
use Rattle.known_keys.specs.OneKey.{BreaksKey, BreaksName, BreaksOneKey, given, given_or, key_given, same_id, same_named, turned}

-- ---- keys

append-none : (keys : List Secret) → keys ≡ keys ++ []
append-none [] = refl
append-none (k ∷ keys) = ap (λ (ks : List Secret). k ∷ ks) (append-none keys)

-- the keys with one more begin with those without
with-more : (keys : List Secret) (o : Option Secret) → (more : List Secret) × (with_key keys o ≡ keys ++ more)
with-more keys None = ([], append-none keys)
with-more keys (Some sak) = go (number_in keys sak)
  where
    go : (o : Option ℕ) → (more : List Secret) × (with_number keys sak o ≡ keys ++ more)
    go None = (sak ∷ [], refl)
    go (Some n) = ([], append-none keys)

pub front-keys : (later earlier : List Entry)
    → (more : List Secret) × (keys (later ++ earlier) ≡ keys earlier ++ more)
front-keys [] earlier = ([], append-none (keys earlier))
front-keys (entry ∷ later) earlier =
    let before = front-keys later earlier in
    let then = with-more (keys (later ++ earlier)) (sak_of entry) in (
      before.0 ++ then.0,
      then.1 ∙ ap (λ (ks : List Secret). ks ++ then.0) before.1
          ∙ append_assoc (keys earlier) before.0 then.0,
    )

-- ---- what is given

giving-end : (end packet : ℕ) (o : Option ℕ) (it : ℕ → KeyId × Named) (earlier : Option (KeyId × Named)) (m : ℕ)
    → (m ≢ packet) → given_or (option_map (λ key. (packet, it key)) o) m earlier ≡ earlier
giving-end end packet None it earlier m apart = refl
giving-end end packet (Some key) it earlier m apart =
    ap (λ b. cond b (Some (it key)) earlier) (ne_eqb packet m (λ e. apart (sym e)))

pub given-front : (later earlier : List Entry) (end : ℕ) → IsBehind end later → (m : ℕ) → m ≤ end
    → given (later ++ earlier) m ≡ given earlier m
given-front [] earlier end behind m less = refl
given-front (Set s a k ∷ later) earlier end behind m less = given-front later earlier end behind m less
given-front (Showed p t g id an ∷ later) earlier end behind m less = given-front later earlier end behind m less
given-front (Strange sci ∷ later) earlier end behind m less = given-front later earlier end behind m less
given-front (Gave p t g id an (Without why) ∷ later) earlier end behind m less = given-front later earlier end behind.1 m less
given-front (Gave p t g id an (Key offset sak) ∷ later) earlier end behind m less =
    let above = behind.0 in
    giving-end end p (number_told (later ++ earlier) (Gave p t g id an (Key offset sak))) (λ key. (id, record { an = an; key = key }))
    (given (later ++ earlier) m) m (λ e. omega (arith, e, above, less))
    ∙ given-front later earlier end behind.1 m less

given-or-ends : (end packet : ℕ) (o : Option ℕ) (it : ℕ → KeyId × Named) (earlier : Option (KeyId × Named)) (m : ℕ)
    → packet ≤ end → ((kv : KeyId × Named) → earlier ≡ Some kv → m ≤ end) → (m ≡ packet) ⊎ (m ≢ packet)
    → (kv : KeyId × Named) → given_or (option_map (λ key. (packet, it key)) o) m earlier ≡ Some kv → m ≤ end
given-or-ends end packet o it earlier m most before (inl same) kv e = omega (arith, same, most)
given-or-ends end packet o it earlier m most before (inr apart) kv e =
    before kv (sym (giving-end end packet o it earlier m apart) ∙ e)

given-ends : (earlier : List Entry) (end : ℕ) → IsWithin end earlier → (m : ℕ) (kv : KeyId × Named)
    → given earlier m ≡ Some kv → m ≤ end
given-ends [] end within m kv e = absurd (cc e)
given-ends (Set s a k ∷ earlier) end within m kv e = given-ends earlier end within m kv e
given-ends (Showed p t g id an ∷ earlier) end within m kv e = given-ends earlier end within m kv e
given-ends (Strange sci ∷ earlier) end within m kv e = given-ends earlier end within m kv e
given-ends (Gave p t g id an (Without why) ∷ earlier) end within m kv e = given-ends earlier end within.1 m kv e
given-ends (Gave p t g id an (Key offset sak) ∷ earlier) end within m kv e =
    given-or-ends end p (number_told earlier (Gave p t g id an (Key offset sak))) (λ key. (id, record { an = an; key = key }))
    (given earlier m) m within.0 (λ kv e. given-ends earlier end within.1 m kv e) (cases_eq m p) kv e

-- ---- what is broken

module _ (K V : Type 0) (agree : V → V → Bool) where
  in-front : (end : ℕ) (front whole : Noted K V) → IsFront K V end front whole → (a b : ℕ) → b ≤ end
      → Breaks K V agree whole a b → Breaks K V agree front a b
  in-front end front whole is a b within broken =
      let order = broken.order in
      let near : a ≤ end = omega (arith, order, within) in
      record {
        key = broken.key;
        one = broken.one;
        other = broken.other;
        order = order;
        first = sym (is.same a near) ∙ broken.first;
        second = sym (is.same b within) ∙ broken.second;
        apart = broken.apart;
      }

  in-whole : (end : ℕ) (front whole : Noted K V) → IsFront K V end front whole → (a b : ℕ)
      → Breaks K V agree front a b → Breaks K V agree whole a b
  in-whole end front whole is a b broken = record {
    key = broken.key;
    one = broken.one;
    other = broken.other;
    order = broken.order;
    first = is.same a (is.ends a (broken.key, broken.one) broken.first) ∙ broken.first;
    second = is.same b (is.ends b (broken.key, broken.other) broken.second) ∙ broken.second;
    apart = broken.apart;
  }

  within-end : (end : ℕ) (front whole : Noted K V) → IsFront K V end front whole → (a b : ℕ)
      → Breaks K V agree front a b → b ≤ end
  within-end end front whole is a b broken = is.ends b (broken.key, broken.other) broken.second

by-names : (later earlier : List Entry) (end : ℕ) → IsWithin end earlier → IsBehind end later
    → IsFront KeyId Named end (given earlier) (given (later ++ earlier))
by-names later earlier end within behind = record {
  same = λ m less. given-front later earlier end behind m less;
  ends = λ m kv e. given-ends earlier end within m kv e;
}

was-given : (o : Option (KeyId × Named)) (kv : ℕ × KeyId) → option_map turned o ≡ Some kv
    → (it : KeyId × Named) × (o ≡ Some it)
was-given None kv e = absurd (cc e)
was-given (Some it) kv e = (it, refl)

by-keys : (later earlier : List Entry) (end : ℕ) → IsWithin end earlier → IsBehind end later
    → IsFront ℕ KeyId end (key_given earlier) (key_given (later ++ earlier))
by-keys later earlier end within behind = record {
  same = λ m less. ap (λ (o : Option (KeyId × Named)). option_map turned o) (given-front later earlier end behind m less);
  ends = λ m kv e. let was = was-given (given earlier m) kv e in given-ends earlier end within m was.0 was.1;
}

pub stays-broken : (later earlier : List Entry) (end : ℕ) (pair : ℕ × ℕ) → IsWithin end earlier → IsBehind end later
    → IsJudged (BreaksOneKey earlier) (Some pair) → IsJudged (BreaksOneKey (later ++ earlier)) (Some pair)
stays-broken later earlier end pair within behind was = record {
  broken = there pair.0 pair.1 was.broken;
  least = λ a b broken. least a b broken (cases_lt end b);
  first = λ a broken. was.first a (back a pair.1 (low pair.0 pair.1 was.broken) broken);
}
  where
    there : (a b : ℕ) → BreaksName earlier a b ⊎ BreaksKey earlier a b
        → BreaksName (later ++ earlier) a b ⊎ BreaksKey (later ++ earlier) a b
    there a b (inl x) = inl (in-whole KeyId Named same_named end (given earlier) (given (later ++ earlier)) (by-names later earlier end within behind) a b x)
    there a b (inr x) = inr (in-whole ℕ KeyId same_id end (key_given earlier) (key_given (later ++ earlier)) (by-keys later earlier end within behind) a b x)

    back : (a b : ℕ) → b ≤ end → BreaksName (later ++ earlier) a b ⊎ BreaksKey (later ++ earlier) a b
        → BreaksName earlier a b ⊎ BreaksKey earlier a b
    back a b less (inl x) = inl (in-front KeyId Named same_named end (given earlier) (given (later ++ earlier)) (by-names later earlier end within behind) a b less x)
    back a b less (inr x) = inr (in-front ℕ KeyId same_id end (key_given earlier) (key_given (later ++ earlier)) (by-keys later earlier end within behind) a b less x)

    low : (a b : ℕ) → BreaksName earlier a b ⊎ BreaksKey earlier a b → b ≤ end
    low a b (inl x) = within-end KeyId Named same_named end (given earlier) (given (later ++ earlier)) (by-names later earlier end within behind) a b x
    low a b (inr x) = within-end ℕ KeyId same_id end (key_given earlier) (key_given (later ++ earlier)) (by-keys later earlier end within behind) a b x

    least : (a b : ℕ) → BreaksName (later ++ earlier) a b ⊎ BreaksKey (later ++ earlier) a b
        → (end < b) ⊎ (b ≤ end) → pair.1 ≤ b
    least a b broken (inl far) = let near = low pair.0 pair.1 was.broken in omega (arith, near, far)
    least a b broken (inr near) = was.least a b (back a b near broken)
