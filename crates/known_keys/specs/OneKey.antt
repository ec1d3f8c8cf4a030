-- One key under each identifier, and one identifier of each key.
use Rattle.std.specs.Prelude.{ℕ, ◌==◌, ◌&&◌, ◌⊎◌, ◌||◌, nat_lt, Bool, if◌then◌else◌, List, [], ◌∷◌, Option, Some, None, option_map}
use Rattle.std.specs.Option.{option_or}
use Rattle.lan_base.specs.declared.key_id.KeyId.{KeyId}
use Rattle.lan_base.specs.AssociationNumbers.{same_an}
use Rattle.lan_base.specs.Identifiers.{same_mi}
use Rattle.least_pairs.specs.Pairs.{Noted, Breaks}
use Rattle.known_keys.specs.declared.giving.Giving.TheVariants.{Key}
use Rattle.known_keys.specs.declared.named.Named.{Named}
use Rattle.known_keys.specs.History.{Entry, Gave}
use Rattle.known_keys.specs.Known.{number_told}

-- whether both are the same association number and key
abbrev pub same_named : Named → Named → Bool
same_named a b = same_an a.an b.an && (a.key == b.key)

-- whether both are the same identifier
abbrev pub same_id : KeyId → KeyId → Bool
same_id a b = same_mi a.server b.server && (a.number == b.number)

-- what an entry gives, if it gives a key: its packet, and what the identifier names
abbrev pub gives : List Entry → Entry → Option (ℕ × (KeyId × Named))
gives before (Gave packet nanos group id an (Key offset sak)) =
    option_map (λ key. (packet, (id, record { an = an; key = key })))
    (number_told before (Gave packet nanos group id an (Key offset sak)))
gives before _ = None

abbrev pub given_or : Option (ℕ × (KeyId × Named)) → ℕ → Option (KeyId × Named) → Option (KeyId × Named)
given_or None packet earlier = earlier
given_or (Some it) packet earlier = if it.0 == packet then Some it.1 else earlier

-- what the packet of a number gives
abbrev pub given : List Entry → Noted KeyId Named
given [] packet = None
given (entry ∷ before) packet = given_or (gives before entry) packet (given before packet)

-- a key, and the identifier that names it
abbrev pub turned : KeyId × Named → ℕ × KeyId
turned it = (it.1.key, it.0)

-- the key that the packet of a number gives, and the key's identifier
abbrev pub key_given : List Entry → Noted ℕ KeyId
key_given history packet = option_map turned (given history packet)

-- ---- what was given first

-- an entry gives this identifier: its packet, and what the identifier names
abbrev pub named_by : KeyId → Option (ℕ × (KeyId × Named)) → Option (ℕ × Named)
named_by id None = None
named_by id (Some it) = if same_id it.1.0 id then Some (it.0, it.1.1) else None

-- the packet that gave an identifier first, and what that named
abbrev pub first_named : List Entry → KeyId → Option (ℕ × Named)
first_named [] id = None
first_named (entry ∷ before) id = option_or (first_named before id) (named_by id (gives before entry))

-- an entry gives this key: its packet, and the identifier
abbrev pub identified_by : ℕ → Option (ℕ × (KeyId × Named)) → Option (ℕ × KeyId)
identified_by key None = None
identified_by key (Some it) = if it.1.1.key == key then Some (it.0, it.1.0) else None

-- the packet that gave a key first, and under which identifier
abbrev pub first_identified : List Entry → ℕ → Option (ℕ × KeyId)
first_identified [] key = None
first_identified (entry ∷ before) key = option_or (first_identified before key) (identified_by key (gives before entry))

-- ---- which packets break it

-- two packets give one identifier with two SAKs or two association numbers
abbrev pub BreaksName : List Entry → ℕ → ℕ → Type 0
BreaksName history = Breaks KeyId Named same_named (given history)

-- two packets give one SAK under two identifiers
abbrev pub BreaksKey : List Entry → ℕ → ℕ → Type 0
BreaksKey history = Breaks ℕ KeyId same_id (key_given history)

-- two packets give keys that are not one under each identifier, or not one identifier of each
abbrev pub BreaksOneKey : List Entry → ℕ → ℕ → Type 0
BreaksOneKey history earlier later = BreaksName history earlier later ⊎ BreaksKey history earlier later

-- the packet that told of it first, where that told another thing
abbrev pub other_first : (V : Type 0) → (V → V → Bool) → V → Option (ℕ × V) → Option ℕ
other_first V agree v None = None
other_first V agree v (Some nv) = if agree nv.1 v then None else Some nv.0

-- the pair with the less later packet, and of two with one later packet that with the less earlier
abbrev pub is_less : ℕ × ℕ → ℕ × ℕ → Bool
is_less a b = nat_lt a.1 b.1 || (a.1 == b.1 && nat_lt a.0 b.0)

abbrev pub lesser_of : Option (ℕ × ℕ) → Option (ℕ × ℕ) → Option (ℕ × ℕ)
lesser_of None pair = pair
lesser_of (Some a) None = Some a
lesser_of (Some a) (Some b) = if is_less b a then Some b else Some a
