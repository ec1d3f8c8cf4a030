-- What was told first of each key, and the least pair that breaks.
use Rattle.std.specs.Prelude.{ℕ, ◌≡◌, ◌≢◌, Bool, Option, Some, None}
use Rattle.std.specs.Option.{option_or}
use Rattle.lan_base.specs.declared.key_id.KeyId.{KeyId}
use Rattle.known_keys.specs.declared.named.Named.{Named}
use Rattle.known_keys.specs.declared.givings.Others.{Others}
use Rattle.known_keys.specs.OneKey.{other_first, same_id, same_named}
use Rattle.known_keys.specs.Maps.{Firsts, first_giving, first_naming}

-- what was found first is found under one key more
pub record IsFirst (K V : Type 0) (old new : K → Option (ℕ × V)) (number : ℕ) (key : K) (v : V) :
    Type 0 where
  pub here : new key ≡ Some (number, v)
  pub others : (q : K) → q ≢ key → new q ≡ old q

-- the first of a key that was found before, or that is told now
abbrev pub Finds : (K V : Type 0) → (old new : K → Option (ℕ × V)) → ℕ → K → V → Option (ℕ × V) → Type 0
Finds K V old new number key v None = IsFirst K V old new number key v
Finds K V old new number key v (Some nv) = (q : K) → new q ≡ old q

abbrev pub pair_after : Option (ℕ × ℕ) → ℕ → Option ℕ → Option (ℕ × ℕ)
pair_after pair number None = pair
pair_after pair number (Some first) = option_or pair (Some (first, number))

-- a number more tells this of a key
pub record IsNoted (K V : Type 0) (agree : V → V → Bool) (old new : K → Option (ℕ × V))
    (pair_old pair_new : Option (ℕ × ℕ)) (number : ℕ) (key : K) (v : V) (answer : Option ℕ) : Type 0
  where
    pub finds : Finds K V old new number key v (old key)
    pub answers : answer ≡ other_first V agree v (old key)
    pub pair : pair_new ≡ pair_after pair_old number (other_first V agree v (old key))

-- ---- both rules

-- a packet gives a key under an identifier
pub record IsGiven (packet : ℕ) (id : KeyId) (named : Named) (old new : Firsts) (others : Others) : Type 0
  where
    pub name : IsNoted KeyId Named same_named (first_naming old.names) (first_naming new.names)
        old.name_pair new.name_pair packet id named others.name
    pub key : IsNoted ℕ KeyId same_id (first_giving old.ids) (first_giving new.ids)
        old.id_pair new.id_pair packet named.key id others.id
    pub last : new.last ≡ packet
