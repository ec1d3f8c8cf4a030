-- The ciphers as far as the group's laws need them: how long check values are, that the key
-- encrypting key is a key, and that a wrap hides what was wrapped.
use Rattle.std.proofs.Common.{◌≡◌, ◌<◌, ◌≤◌, ◌+◌, ◌-◌, ◌*◌, ◌/◌, refl, sym, ap, ◌∙◌, subst, inl}
use Rattle.std.proofs.Common.{inr, ◌⊎◌, ℕ, zero, suc, List, [], ◌∷◌, ◌++◌, length, drop, replicate}
use Rattle.std.proofs.Common.{Bool, true, false, Option, Some, None, arith, length-append}
use Rattle.std.proofs.Common.{length-take}
use Rattle.std.specs.Prelude.{All, codes, option_map, nat_lt, ◌==◌, if◌then◌else◌, bit_xor}
use lib.Lanes.{zip2}
use Rattle.std.specs.List.{list_all}
use Rattle.std.specs.Int.{w16, w128, from_be_bytes, to_be_bytes}
use Rattle.std.proofs.lemmas.Bool.{and_parts, ltb-true, eqb-true, eqb-false}
use Rattle.std.proofs.lemmas.List.{length-replicate, length-take-le, length-drop}
use Rattle.std.proofs.lemmas.List.Elements.{All-append, All-replicate}
use Rattle.aes_block.specs.declared.secret.Secret.{Secret}
use Rattle.aes_block.specs.declared.secret.Secret.TheVariants.{S128, S256}
use Rattle.aes_block.specs.Octet.{octets_sum}
use Rattle.aes_block.specs.Secrets.{secret_octets}
use Rattle.aes_block.specs.State.{last_round, shift_rows, sub_bytes}
use Rattle.aes_block.specs.Aes.{aes, cipher, IsBlock, IsKey, IsOctets}
use Rattle.aes_block.proofs.Public.{AreOctets, All-from_AreOctets, AreOctets-from_All}
use Rattle.aes_block.proofs.Public.{AreOctets-append, AreOctets-octets_sum, AreOctets-take}
use Rattle.aes_block.proofs.Public.{AreOctets-drop, same_source, inv_aes, aes-inverse}
use Rattle.aes_cmac.specs.Cmac.{cmac, chain_after, block, before_last, last_block, padded_part}
use Rattle.aes_cmac.specs.Cmac.{first_subkey, second_subkey, doubled, doubled_bits}
use Rattle.mka_kdf.specs.Kdf.{kek_of, ick_of, derived, input, context_of}
use Rattle.mka_kdf.proofs.Public.{derived-16, derived-32}
use Rattle.key_wrap.specs.Wrap.{wrapped, initial_value}
use Rattle.key_wrap.proofs.Public.{IsOctets-steps, Permutes, one_key}
use Rattle.mkpdu_codec.specs.declared.wrapped_key.WrappedKey.{WrappedKey}
use Rattle.mkpdu_codec.specs.declared.wrapped_key.WrappedKey.TheVariants.{Aes128, Aes256, Xpn128, Xpn256, Other}
use Rattle.sak_exchange.specs.declared.held_key.Key.{Key}
use Rattle.sak_exchange.specs.Unwrapping.{unwrapped, given_sak}
use Rattle.sak_exchange.proofs.Public.{key-unwrapped, unwrapped-key}
use Rattle.mka_station.specs.Announcing.{wrapped_key}
use Rattle.lan_core.specs.Types.{IsSecret, AreSome}
use Rattle.group_safety.proofs.once.Currents.{some-same, none-some}
use Rattle.group_safety.proofs.once.Rules.{Hides}

-- ---- one block

zip-length : (f : ℕ → ℕ → ℕ) (a b c : List ℕ) → length a ≡ length b
    → length (zip2 f a c) ≡ length (zip2 f b c)
zip-length f [] [] c e = refl
zip-length f [] (y ∷ b) c e = absurd (omega (arith, e))
zip-length f (x ∷ a) [] c e = absurd (omega (arith, e))
zip-length f (x ∷ a) (y ∷ b) [] e = refl
zip-length f (x ∷ a) (y ∷ b) (z ∷ c) e =
    ap suc (zip-length f a b c (omega (arith, e)))

shifted-length : (a : List ℕ) → length (shift_rows a) ≡ 16
unfolding shift_rows
shifted-length a = refl

last-length : (a b key : List ℕ) → length (last_round a key) ≡ length (last_round b key)
unfolding last_round
last-length a b key =
    zip-length bit_xor (shift_rows (sub_bytes a)) (shift_rows (sub_bytes b)) key
    (shifted-length (sub_bytes a) ∙ sym (shifted-length (sub_bytes b)))

ciphers-length : (key a b : List ℕ) → length (aes key a) ≡ length (aes key b)
unfolding aes cipher
ciphers-length key a b = last-length _ _ _

sixteen-zeros : length {A = ℕ} (replicate 16 0) ≡ 16
sixteen-zeros = refl

zeros : IsBlock (replicate 16 0)
zeros = record { count = sixteen-zeros; octets = All-from_AreOctets (replicate 16 0) zero_octets }
  where
    zero_octets : AreOctets (replicate 16 0)
    zero_octets = search arith

pub encrypts : (key text : List ℕ) → IsKey key → IsBlock text → IsBlock (aes key text)
encrypts key text is_key is_block = (aes-inverse key is_key).keeps text is_block

pub aes-length : (key text : List ℕ) → IsKey key → length (aes key text) ≡ 16
aes-length key text is_key =
    ciphers-length key text (replicate 16 0) ∙ (encrypts key (replicate 16 0) is_key zeros).count

pub cmac-length : (key message : List ℕ) → IsKey key → length (cmac key message) ≡ 16
unfolding cmac
cmac-length key message is_key = aes-length key _ is_key

-- ---- check values of octets are octets

bytes-octets : (n : ℕ) → AreOctets (to_be_bytes w128 n)
bytes-octets n = search arith

is-block : (a : List ℕ) → length a ≡ 16 → AreOctets a → IsBlock a
is-block a count octets = record { count = count; octets = All-from_AreOctets a octets }

doubled-block : (a : List ℕ) → IsBlock (doubled a)
unfolding doubled
doubled-block a = is-block (doubled a) refl (bytes-octets (doubled_bits (from_be_bytes w128 a)))

sum-block : (a b : List ℕ) → length a ≡ 16 → AreOctets a → IsBlock b → IsBlock (octets_sum a b)
sum-block a b count octets is =
    is-block (octets_sum a b)
    (zip-length bit_xor a (replicate 16 0) b (count ∙ sym (sixteen-zeros)) ∙ whole b is.count)
    (AreOctets-octets_sum a b octets (AreOctets-from_All b is.octets))
  where
    ones : (n : ℕ) (c : List ℕ) → length c ≡ n → length (zip2 bit_xor (replicate n 0) c) ≡ n
    ones zero c e = refl
    ones (suc n) [] e = absurd (omega (arith, e))
    ones (suc n) (x ∷ c) e = ap suc (ones n c (omega (arith, e)))

    whole : (c : List ℕ) → length c ≡ 16 → length (zip2 bit_xor (replicate 16 0) c) ≡ 16
    whole c e = ones 16 c e

part-octets : (message : List ℕ) (i : ℕ) → AreOctets message → AreOctets (block message i)
part-octets message i octets = AreOctets-take 16 (drop (16 * i) message)
    (AreOctets-drop (16 * i) message octets)

chain-block : (key message : List ℕ) (i : ℕ) → IsKey key → AreOctets message
    → 16 * i ≤ length message
    → IsBlock (chain_after key message i)
unfolding chain_after
chain-block key message zero is_key octets less = zeros
chain-block key message (suc i) is_key octets less =
    let before = chain-block key message i is_key octets (omega (arith, less)) in
    let left : length (drop (16 * i) message) ≡ length message - 16 * i =
    length-drop (16 * i) message in
    let count : length (block message i) ≡ 16 = length-take-le 16 (drop (16 * i) message)
    (omega (arith, less, left)) in
    encrypts key (octets_sum (chain_after key message i) (block message i)) is_key
    (sum-block (chain_after key message i) (block message i) before.count
    (AreOctets-from_All _ before.octets)
    (is-block (block message i) count (part-octets message i octets)))

zero-octets : (n : ℕ) → AreOctets (replicate n 0)
zero-octets zero = tt
zero-octets (suc n) = (omega arith, zero-octets n)

padded-length : (part : List ℕ) → length part ≤ 15 → length (padded_part part) ≡ 16
padded-length part short =
    let whole = length-append part (0x80 ∷ replicate (15 - length part) 0) in
    let z : ℕ = 0 in
    let rest : length (replicate (15 - length part) z) ≡ 15 - length part =
    length-replicate (15 - length part) z in
    whole ∙ omega (arith, rest, short)

last-is : (key part : List ℕ) → length part ≤ 16 → AreOctets part → IsBlock (last_block key part)
last-is key part few octets = go (length part == 16) refl
  where
    go : (b : Bool) → (length part == 16) ≡ b
        → IsBlock
        (if b then octets_sum part (first_subkey key) else octets_sum (padded_part part)
        (second_subkey key))
    go true e =
        sum-block part (first_subkey key) (eqb-true (length part) 16 e) octets
        (doubled-block (aes key (replicate 16 0)))
    go false e =
        sum-block (padded_part part) (second_subkey key)
        (padded-length part (omega (arith, few, eqb-false (length part) 16 e)))
        (AreOctets-append part (0x80 ∷ replicate (15 - length part) 0) octets
        (omega arith, zero-octets (15 - length part)))
        (doubled-block (first_subkey key))

pub cmac-block : (key message : List ℕ) → IsKey key → AreOctets message → IsBlock (cmac key message)
unfolding cmac
cmac-block key message is_key octets =
    let n = before_last message in
    let chain = chain-block key message n is_key octets (omega arith) in
    let few : length (block message n) ≤ 16 =
    omega (arith, length-take 16 (drop (16 * n) message)) in
    encrypts key (octets_sum (chain_after key message n) (last_block key (block message n))) is_key
    (sum-block (chain_after key message n) (last_block key (block message n)) chain.count
    (AreOctets-from_All _ chain.octets)
    (last-is key (block message n) few (part-octets message n octets)))

-- ---- the keys of the group

all-small : (xs : List ℕ) → list_all (λ x. nat_lt x 256) xs ≡ true → AreOctets xs
all-small [] e = tt
all-small (x ∷ xs) e =
    let both = and_parts (nat_lt x 256) (list_all (λ x. nat_lt x 256) xs) e in
    (ltb-true x 256 both.0, all-small xs both.1)

context-octets : (ckn : List ℕ) → AreOctets ckn → AreOctets (context_of ckn)
context-octets ckn octets =
    AreOctets-take 16 (ckn ++ replicate 16 0)
    (AreOctets-append ckn (replicate 16 0) octets (zero-octets 16))

two-octets : (n : ℕ) → AreOctets (to_be_bytes w16 n)
two-octets n = search arith

input-octets : (number : ℕ) (label context : List ℕ) (bits : ℕ) → number < 256 → AreOctets label
    → AreOctets context → AreOctets (input number label context bits)
input-octets number label context bits small labelled named = (
  small,
  AreOctets-append (label ++ 0 ∷ context) (to_be_bytes w16 bits)
      (AreOctets-append label (0 ∷ context) labelled (omega arith, named)) (two-octets bits),
)

derived-key : (key label context : List ℕ) → (length key ≡ 16) ⊎ (length key ≡ 32) → AreOctets key
    → AreOctets label → AreOctets context → IsKey (derived key label context (length key))
derived-key key label context (inl e) octets labelled named =
    let is_key : IsKey key = record { count = inl e; octets = All-from_AreOctets key octets } in
    let one = cmac-block key (input 1 label context 128) is_key
    (input-octets 1 label context 128 (omega arith) labelled named) in
    subst (λ n. IsKey (derived key label context n)) (sym e)
    (subst IsKey (sym (derived-16 key label context one.count))
    (record { count = inl one.count; octets = one.octets }))
derived-key key label context (inr e) octets labelled named =
    let is_key : IsKey key =
    record { count = inr (inr e); octets = All-from_AreOctets key octets } in
    let first = cmac key (input 1 label context 256) in
    let second = cmac key (input 2 label context 256) in
    let one = cmac-block key (input 1 label context 256) is_key
    (input-octets 1 label context 256 (omega arith) labelled named) in
    let two = cmac-block key (input 2 label context 256) is_key
    (input-octets 2 label context 256 (omega arith) labelled named) in
    let count : length (first ++ second) ≡ 32 = length-append first second
    ∙ omega (arith, one.count, two.count) in
    subst (λ n. IsKey (derived key label context n)) (sym e)
    (subst IsKey (derived-32 key label context one.count two.count) (record {
      count = inr (inr count);
      octets = All-from_AreOctets (first ++ second)
          (AreOctets-append first second (AreOctets-from_All first one.octets)
          (AreOctets-from_All second two.octets));
    }))

secret-length : (cak : Secret) → IsSecret cak → (length (secret_octets cak) ≡ 16)
    ⊎ (length (secret_octets cak) ≡ 32)
secret-length (S128 octets) is = inl is.0
secret-length (S256 octets) is = inr is.0

secret-small : (cak : Secret) → IsSecret cak → AreOctets (secret_octets cak)
secret-small (S128 octets) is = AreOctets-from_All octets is.1
secret-small (S256 octets) is = AreOctets-from_All octets is.1

pub kek-is-key : (cak : Secret) (ckn : List ℕ) → IsSecret cak → All (λ octet. octet < 256) ckn
    → IsKey (kek_of (secret_octets cak) ckn)
kek-is-key cak ckn is named =
    derived-key (secret_octets cak) (codes "IEEE8021 KEK") (context_of ckn) (secret-length cak is)
    (secret-small cak is) (all-small (codes "IEEE8021 KEK") refl)
    (context-octets ckn (AreOctets-from_All ckn named))

pub ick-is-key : (cak : Secret) (ckn : List ℕ) → IsSecret cak → All (λ octet. octet < 256) ckn
    → IsKey (ick_of (secret_octets cak) ckn)
ick-is-key cak ckn is named =
    derived-key (secret_octets cak) (codes "IEEE8021 ICK") (context_of ckn) (secret-length cak is)
    (secret-small cak is) (all-small (codes "IEEE8021 ICK") refl)
    (context-octets ckn (AreOctets-from_All ckn named))

-- ---- wraps

pub wrapped-octets : (kek octets : List ℕ) (n : ℕ) → IsKey kek → 8 ≤ n → length octets ≡ n
    → All (λ octet. octet < 256) octets → IsOctets (8 + n) (wrapped kek octets)
unfolding wrapped
wrapped-octets kek octets n is_key room count small =
    IsOctets-steps kek (initial_value ++ octets) (8 + n) (6 * (length octets / 8))
    (omega (arith, room)) (λ text is. encrypts kek text is_key is) (record {
      count = length-append initial_value octets ∙ omega (arith, count);
      octets = All-append (λ octet. octet < 256) initial_value octets
          (All-replicate (λ octet. octet < 256) 8 0xa6 (omega arith)) small;
    })

pub wrapped-length : (kek octets : List ℕ) (n : ℕ) → IsKey kek → 8 ≤ n → length octets ≡ n
    → All (λ octet. octet < 256) octets → length (wrapped kek octets) ≡ 8 + n
wrapped-length kek octets n is_key room count small =
    (wrapped-octets kek octets n is_key room count small).count

permutes : (kek : List ℕ) → IsKey kek → Permutes kek
permutes kek is_key = record {
  blocks = λ text is. encrypts kek text is_key is;
  one = λ x y p q e. same_source (aes kek) (inv_aes kek) (aes-inverse kek is_key) x y p q e;
}

pub hidden : (n : ℕ) (kek octets : List ℕ) → IsKey kek → 8 ≤ n → AreSome n octets
    → unwrapped n kek (wrapped kek octets) ≡ Some octets
hidden n kek octets is_key room is =
    let whole : IsOctets n octets = record { count = is.0; octets = is.1 } in
    key-unwrapped n kek (wrapped kek octets) octets
    (λ other both. one_key kek other octets n room (permutes kek is_key) both.0 whole both.1) whole
    refl

-- what is wrapped is unwrapped again
hides-secret : (kek : List ℕ) (s : Secret) → IsKey kek → IsSecret s
    → given_sak kek (wrapped_key kek s) ≡ Some s
hides-secret kek (S128 octets) is_key is =
    ap (option_map S128) (hidden 16 kek octets is_key (omega arith) is)
hides-secret kek (S256 octets) is_key is =
    ap (option_map S256) (hidden 32 kek octets is_key (omega arith) is)

pub hides : (kek : List ℕ) (k : Key) → IsKey kek → IsSecret k.sak → Hides kek k
hides kek k is_key is = hides-secret kek k.sak is_key is

-- what is unwrapped is a key of its length
from_map : {A B : Type 0} (f : A → B) (o : Option A) (b : B) → option_map f o ≡ Some b
    → (a : A) × (o ≡ Some a) × (f a ≡ b)
from_map f None b e = absurd (none-some e)
from_map f (Some a) b e = (a, refl, some-same e)

pub unwrapped-secret : (kek : List ℕ) (w : WrappedKey) (s : Secret) → given_sak kek w ≡ Some s
    → IsSecret s
unwrapped-secret kek (Aes128 octets) s e =
    let r = from_map S128 (unwrapped 16 kek octets) s e in
    let whole = (unwrapped-key 16 kek octets r.0 r.1).0 in
    subst IsSecret r.2 (whole.count, whole.octets)
unwrapped-secret kek (Aes256 octets) s e =
    let r = from_map S256 (unwrapped 32 kek octets) s e in
    let whole = (unwrapped-key 32 kek octets r.0 r.1).0 in
    subst IsSecret r.2 (whole.count, whole.octets)
unwrapped-secret kek (Xpn128 octets) s e = absurd (none-some e)
unwrapped-secret kek (Xpn256 octets) s e = absurd (none-some e)
unwrapped-secret kek Other s e = absurd (none-some e)
