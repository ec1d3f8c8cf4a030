-- What is read of a frame is what the frame spells.
use Rattle.std.specs.Prelude.{◌||◌, ◌&&◌}
use Rattle.std.specs.List.{AllByRecursion, find}
use Rattle.std.proofs.Common.{◌≡◌, ℕ, zero, suc, ◌+◌, ◌*◌, ◌/◌, ◌%◌, ◌^◌, ◌<◌, ◌≤◌, ◌⊎◌, inl, inr, Bool, true, false, cond, leb, eqb, List, [], ◌∷◌, ◌++◌, length, take, drop, Option, Some, None, refl, sym, ap, subst, ◌∙◌, arith, length-drop, length-take, append_assoc}
use Rattle.std.proofs.lemmas.Bool.{eqb-true, eqb-false, leb-true, and_parts}
use Rattle.std.proofs.lemmas.List.{append-nil, nil_from_length, take-append-drop}
use Rattle.std.proofs.lemmas.List.Elements.{All-from_recursion}
use Rattle.std.proofs.lemmas.Nat.{be_bytes_4}
use Rattle.byteorder.specs.Endian.{big_number, big_bytes}
use Rattle.byteorder.specs.Numbers.{big_from-lt}
use Rattle.lan_base.specs.declared.address.Mi.{Mi}
use Rattle.mkpdu_codec.specs.declared.given.Given.{Given}
use Rattle.mkpdu_codec.specs.declared.high_halves.HighHalves.{HighHalves}
use Rattle.mkpdu_codec.specs.declared.key_use.KeyUse.{KeyUse}
use Rattle.mkpdu_codec.specs.declared.key_use.Uses.{Uses}
use Rattle.mkpdu_codec.specs.declared.peer.Peer.{Peer}
use Rattle.mkpdu_codec.specs.declared.wrapped_key.WrappedKey.TheVariants.{Aes128}
use Rattle.mkpdu_codec.specs.Sets.{bit, peer, peers_body, use_body, use_flags, gcm_aes_256, gcm_aes_xpn_128, gcm_aes_xpn_256, IsPeer, IsKey}
use Rattle.mkpdu_codec.specs.Frames.{Set, the, SpellsPeers, SpellsUses, SpellsKey, SpellsGiven, has_highs, SpellsHighs}
use Rattle.mkpdu_codec.specs.Refusals.{is_length_of}
use Rattle.mkpdu_codec.specs.Fields.{an_in, number_at, mi_at, entry_at, entries_at, entries_from, peers_in, key_at, uses_in, wrapped_in, of_suites, key_in, given_in, highs_in}
use Rattle.mkpdu_codec.proofs.TwoBits.{number_of-an_in, offset_bits-offset_in}
use Rattle.mkpdu_codec.proofs.Taking.{octets_at-long}
use Rattle.mkpdu_codec.proofs.SetOctets.{IsBytes, IsBytes-drop}
use Rattle.mkpdu_codec.proofs.Again.{first, the-first, peers_in-or_empty, uses_in-or_empty, given_in-or_empty, short_number, suite_is, suite_not}
use Rattle.mkpdu_codec.proofs.Gathering.{IsBytes-take, IsRead}
use Rattle.mkpdu_codec.proofs.Walking.{IsShaped}

-- ---- numbers

number_back : (octets : List ℕ) → IsBytes octets → 4 ≤ length octets → big_bytes 4 (big_number 4 (take 4 octets)) ≡ take 4 octets
number_back octets bytes le = be_bytes_4 (take 4 octets) (big_number 4 (take 4 octets)) (omega (arith, length-take 4 octets)) (IsBytes-take 4 octets bytes) (omega arith)

pub number_below : (octets : List ℕ) → IsBytes octets → big_number 4 (take 4 octets) < 2 ^ 32
number_below octets bytes = big_from-lt 0 4 (take 4 octets) (IsBytes-take 4 octets bytes)

number_long : (octets : List ℕ) → 4 ≤ length octets → number_at octets ≡ Some (big_number 4 (take 4 octets), drop 4 octets)
unfolding number_at
number_long octets le = rw (octets_at-long 4 octets le) refl

abbrev mi_of : List ℕ → Mi
mi_of octets = record { 0 = octets }

mi_long : (octets : List ℕ) → 12 ≤ length octets → mi_at octets ≡ Some (mi_of (take 12 octets), drop 12 octets)
unfolding mi_at
mi_long octets le = rw (octets_at-long 12 octets le) refl

-- octets as their first ones and the rest, whose first are those of a number
pub number_front : (octets : List ℕ) → IsBytes octets → 4 ≤ length octets → octets ≡ big_bytes 4 (big_number 4 (take 4 octets)) ++ drop 4 octets
number_front octets bytes le = sym (take-append-drop 4 octets) ∙ ap (λ (x : List ℕ). x ++ drop 4 octets) (sym (number_back octets bytes le))

-- ---- peers

abbrev entry_of : List ℕ → Peer
entry_of octets = record { mi = mi_of (take 12 octets); mn = big_number 4 (take 4 (drop 12 octets)) }

entry_long : (octets : List ℕ) → 16 ≤ length octets → entry_at octets ≡ Some (entry_of octets, drop 4 (drop 12 octets))
unfolding entry_at
entry_long octets le = rw (mi_long octets (omega (arith, le)), number_long (drop 12 octets) (omega (arith, le, length-drop 12 octets))) refl

entry_is : (octets : List ℕ) → IsBytes octets → 16 ≤ length octets → (octets ≡ peer (entry_of octets) ++ drop 4 (drop 12 octets)) × IsPeer (entry_of octets)
entry_is octets bytes le =
    let behind : 4 ≤ length (drop 12 octets) = omega (arith, le, length-drop 12 octets) in (
      sym (take-append-drop 12 octets) ∙ ap (λ (x : List ℕ). take 12 octets ++ x) (number_front (drop 12 octets) (IsBytes-drop 12 octets bytes) behind) ∙ sym (append_assoc (take 12 octets) (big_bytes 4 (big_number 4 (take 4 (drop 12 octets)))) (drop 4 (drop 12 octets))),
      record { mi = omega (arith, le, length-take 12 octets); mn = number_below (drop 12 octets) (IsBytes-drop 12 octets bytes) },
    )

pub entries_are : (n : ℕ) (octets : List ℕ) → IsBytes octets → length octets % 16 ≡ 0 → length octets ≤ n → (octets ≡ peers_body (entries_at n octets)) × AllByRecursion IsPeer (entries_at n octets)
unfolding entries_at entry_at mi_at
entries_are zero octets bytes whole le = (nil_from_length octets (omega (arith, le)), tt)
entries_are (suc n) octets bytes whole le = go octets bytes whole le (entries_are n (drop 4 (drop 12 octets)) (IsBytes-drop 4 (drop 12 octets) (IsBytes-drop 12 octets bytes)) (omega (arith, whole, length-drop 4 (drop 12 octets), length-drop 12 octets))) where
  go : (octets : List ℕ) → IsBytes octets → length octets % 16 ≡ 0 → length octets ≤ suc n
      → (length (drop 4 (drop 12 octets)) ≤ n → (drop 4 (drop 12 octets) ≡ peers_body (entries_at n (drop 4 (drop 12 octets)))) × AllByRecursion IsPeer (entries_at n (drop 4 (drop 12 octets))))
      → (octets ≡ peers_body (entries_from (entries_at n) (entry_at octets))) × AllByRecursion IsPeer (entries_from (entries_at n) (entry_at octets))
  go [] bytes whole le next = (refl, tt)
  go (x ∷ xs) bytes whole le next =
      let long : 16 ≤ length (x ∷ xs) = omega (arith, whole) in
      let is = entry_is (x ∷ xs) bytes long in
      let behind = next (omega (arith, le, long, length-drop 4 (drop 12 (x ∷ xs)), length-drop 12 (x ∷ xs))) in
      rw (entry_long (x ∷ xs) long) (is.0 ∙ ap (λ (y : List ℕ). peer (entry_of (x ∷ xs)) ++ y) behind.0, (is.1, behind.1))

-- the one set of a type, of sets that were read
pub the_read : (k : ℕ) (ss : List Set) → is_length_of k 0 ≡ true → AllByRecursion IsRead ss → (IsShaped (the k ss)) × (IsBytes (the k ss).body) × ((the k ss).second < 256) × ((the k ss).kind ≡ k)
the_read k [] empty all = (empty, λ i. omega arith, omega arith, refl)
the_read k (s ∷ ss) empty all =
    elim (eqb s.kind k) as (λ t. eqb s.kind k ≡ t → (IsShaped (cond t s (the k ss))) × (IsBytes (cond t s (the k ss)).body) × ((cond t s (the k ss)).second < 256) × ((cond t s (the k ss)).kind ≡ k)) [
      | true ↦ λ e. (all.0.shaped, all.0.body, all.0.second, eqb-true s.kind k e)
      | false ↦ λ e. the_read k ss empty all.1
    ] refl

shape_at : (k : ℕ) (s : Set) → IsShaped s → s.kind ≡ k → is_length_of k (length s.body) ≡ true
shape_at k s shaped e = ap (λ (j : ℕ). is_length_of j (length s.body)) (sym e) ∙ shaped

pub peers_are : (k : ℕ) (ss : List Set) → is_length_of k 0 ≡ true → ((n : ℕ) → is_length_of k n ≡ true → n % 16 ≡ 0) → AllByRecursion IsRead ss → SpellsPeers (the k ss) (peers_in (first k ss))
peers_are k ss empty sixteens all =
    let r = the_read k ss empty all in
    let same : peers_in (first k ss) ≡ entries_at (length (the k ss).body) (the k ss).body = peers_in-or_empty k (first k ss) ∙ ap (λ (s : Set). entries_at (length s.body) s.body) (sym (the-first k ss)) in
    let are = entries_are (length (the k ss).body) (the k ss).body r.1 (sixteens (length (the k ss).body) (shape_at k (the k ss) r.0 r.3)) (omega arith) in
    subst (λ (ps : List Peer). SpellsPeers (the k ss) ps) (sym same) (record { body = are.0; are_peers = All-from_recursion IsPeer (entries_at (length (the k ss).body) (the k ss).body) are.1 })

-- ---- SAK Use

abbrev key_of : ℕ → List ℕ → KeyUse
key_of bits octets = record { server = mi_of (take 12 octets); number = big_number 4 (take 4 (drop 12 octets)); an = an_in (bits / 4); tx = eqb (bits / 2 % 2) 1; rx = eqb (bits % 2) 1; lowest = big_number 4 (take 4 (drop 4 (drop 12 octets))) }

key_long : (bits : ℕ) (octets : List ℕ) → 20 ≤ length octets → key_at bits octets ≡ Some (key_of bits octets, drop 4 (drop 4 (drop 12 octets)))
unfolding key_at
key_long bits octets le =
    rw (mi_long octets (omega (arith, le)), number_long (drop 12 octets) (omega (arith, le, length-drop 12 octets)), number_long (drop 4 (drop 12 octets)) (omega (arith, le, length-drop 4 (drop 12 octets), length-drop 12 octets))) refl

pub bit_of : (n : ℕ) → n < 2 → bit (eqb n 1) ≡ n
bit_of zero lt = refl
bit_of (suc zero) lt = refl
bit_of (suc (suc n)) lt = absurd (omega (arith, lt))

key_flags : (bits : ℕ) (octets : List ℕ) → bits < 16 → use_flags (key_of bits octets) ≡ bits
key_flags bits octets lt = rw (number_of-an_in (bits / 4), bit_of (bits / 2 % 2) (omega arith), bit_of (bits % 2) (omega arith)) (omega (arith, lt))

key_is : (bits : ℕ) (octets : List ℕ) → bits < 16 → IsBytes octets → 20 ≤ length octets → (octets ≡ use_body (key_of bits octets) ++ drop 4 (drop 4 (drop 12 octets))) × IsKey (key_of bits octets)
key_is bits octets lt bytes le =
    let b1 = IsBytes-drop 12 octets bytes in
    let b2 = IsBytes-drop 4 (drop 12 octets) b1 in
    let l1 : 4 ≤ length (drop 12 octets) = omega (arith, le, length-drop 12 octets) in
    let l2 : 4 ≤ length (drop 4 (drop 12 octets)) = omega (arith, le, length-drop 4 (drop 12 octets), length-drop 12 octets) in
    let server : List ℕ = take 12 octets in
    let number : List ℕ = big_bytes 4 (big_number 4 (take 4 (drop 12 octets))) in
    let lowest : List ℕ = big_bytes 4 (big_number 4 (take 4 (drop 4 (drop 12 octets)))) in
    let rest : List ℕ = drop 4 (drop 4 (drop 12 octets)) in
    let pieces : octets ≡ server ++ (number ++ (lowest ++ rest)) =
    sym (take-append-drop 12 octets) ∙ ap (λ (x : List ℕ). server ++ x) (number_front (drop 12 octets) b1 l1 ∙ ap (λ (x : List ℕ). number ++ x) (number_front (drop 4 (drop 12 octets)) b2 l2)) in (
      pieces ∙ ap (λ (x : List ℕ). server ++ x) (sym (append_assoc number lowest rest)) ∙ sym (append_assoc server (number ++ lowest) rest),
      record { server = omega (arith, le, length-take 12 octets); number = number_below (drop 12 octets) b1; lowest = number_below (drop 4 (drop 12 octets)) b2 },
    )

or_cases : (a b : Bool) → (a || b) ≡ true → (a ≡ true) ⊎ (b ≡ true)
or_cases true b e = inl refl
or_cases false b e = inr e

uses_empty : (s : Set) → s.body ≡ [] → SpellsUses s (uses_in (Some s))
unfolding uses_in key_at mi_at
uses_empty s e = rw e refl

uses_are_of : (s : Set) → IsBytes s.body → s.second < 256 → is_length_of 3 (length s.body) ≡ true → SpellsUses s (uses_in (Some s))
unfolding uses_in
uses_are_of s bytes byte shaped = go (or_cases (eqb (length s.body) 0) (eqb (length s.body) 40) shaped) where
  full : length s.body ≡ 40 → SpellsUses s (uses_in (Some s))
  full len =
      let rest : List ℕ = drop 4 (drop 4 (drop 12 s.body)) in
      let rest_len : length rest ≡ 20 = omega (arith, len, length-drop 4 (drop 4 (drop 12 s.body)), length-drop 4 (drop 12 s.body), length-drop 12 s.body) in
      let rest_bytes : IsBytes rest = IsBytes-drop 4 (drop 4 (drop 12 s.body)) (IsBytes-drop 4 (drop 12 s.body) (IsBytes-drop 12 s.body bytes)) in
      let latest = key_is (s.second / 16) s.body (omega (arith, byte)) bytes (omega (arith, len)) in
      let old = key_is (s.second % 16) rest (omega arith) rest_bytes (omega (arith, rest_len)) in
      let none_behind : drop 4 (drop 4 (drop 12 rest)) ≡ [] = nil_from_length (drop 4 (drop 4 (drop 12 rest))) (omega (arith, rest_len, length-drop 4 (drop 4 (drop 12 rest)), length-drop 4 (drop 12 rest), length-drop 12 rest)) in
      let old_body : rest ≡ use_body (key_of (s.second % 16) rest) = old.0 ∙ ap (λ (x : List ℕ). use_body (key_of (s.second % 16) rest) ++ x) none_behind ∙ append-nil (use_body (key_of (s.second % 16) rest)) in
      let high = key_flags (s.second / 16) s.body (omega (arith, byte)) in
      let low = key_flags (s.second % 16) rest (omega arith) in
      rw (key_long (s.second / 16) s.body (omega (arith, len)), key_long (s.second % 16) rest (omega (arith, rest_len)))
      (sym (ap (λ (x : ℕ). x * 16 + use_flags (key_of (s.second % 16) rest)) high ∙ ap (λ (x : ℕ). s.second / 16 * 16 + x) low ∙ omega arith), latest.0 ∙ ap (λ (x : List ℕ). use_body (key_of (s.second / 16) s.body) ++ x) old_body, latest.1, old.1)

  go : (eqb (length s.body) 0 ≡ true) ⊎ (eqb (length s.body) 40 ≡ true) → SpellsUses s (uses_in (Some s))
  go (inl e) = uses_empty s (nil_from_length s.body (eqb-true (length s.body) 0 e))
  go (inr e) = full (eqb-true (length s.body) 40 e)

pub uses_are : (ss : List Set) → AllByRecursion IsRead ss → SpellsUses (the 3 ss) (uses_in (first 3 ss))
uses_are ss all =
    let r = the_read 3 ss refl all in
    let same : uses_in (first 3 ss) ≡ uses_in (Some (the 3 ss)) = uses_in-or_empty 3 (first 3 ss) ∙ ap (λ (s : Set). uses_in (Some s)) (sym (the-first 3 ss)) in
    subst (λ (u : Option Uses). SpellsUses (the 3 ss) u) (sym same) (uses_are_of (the 3 ss) r.1 r.2 (shape_at 3 (the 3 ss) r.0 r.3))

-- ---- Distributed SAK

key_is_of : (key : List ℕ) → SpellsKey key (key_in key)
key_is_of key = go (eqb (length key) 24) refl (wrapped_in gcm_aes_256 40 key) refl (wrapped_in gcm_aes_xpn_128 24 key) refl (wrapped_in gcm_aes_xpn_256 40 key) refl where
  go : (t : Bool) → eqb (length key) 24 ≡ t → (w : Option (List ℕ)) → wrapped_in gcm_aes_256 40 key ≡ w → (x : Option (List ℕ)) → wrapped_in gcm_aes_xpn_128 24 key ≡ x
      → (y : Option (List ℕ)) → wrapped_in gcm_aes_xpn_256 40 key ≡ y → SpellsKey key (cond t (Aes128 key) (of_suites w x y))
  go true t w e x d y c = (eqb-true (length key) 24 t, refl)
  go false t (Some wrapped) e x d y c = suite_is gcm_aes_256 40 key wrapped refl e
  go false t None e (Some wrapped) d y c = suite_is gcm_aes_xpn_128 24 key wrapped refl d
  go false t None e None d (Some wrapped) c = suite_is gcm_aes_xpn_256 40 key wrapped refl c
  go false t None e None d None c = (eqb-false (length key) 24 t, suite_not gcm_aes_256 40 key refl e, suite_not gcm_aes_xpn_128 24 key refl d, suite_not gcm_aes_xpn_256 40 key refl c)

given_are_of : (s : Set) → IsBytes s.body → s.second < 256 → is_length_of 4 (length s.body) ≡ true → SpellsGiven s (given_in (Some s))
unfolding given_in
given_are_of s bytes byte shaped = go (or_cases (eqb (length s.body) 0) (leb 4 (length s.body)) shaped) where
  go : (eqb (length s.body) 0 ≡ true) ⊎ (leb 4 (length s.body) ≡ true) → SpellsGiven s (given_in (Some s))
  go (inl e) =
      let none : s.body ≡ [] = nil_from_length s.body (eqb-true (length s.body) 0 e) in
      rw (short_number s.body (omega (arith, ap length none))) none
  go (inr e) = some (leb-true 4 (length s.body) e) where
    some : 4 ≤ length s.body → SpellsGiven s (given_in (Some s))
    some le =
        rw (number_long s.body le) (record {
          key = drop 4 s.body;
          second = rw (number_of-an_in (s.second / 64), offset_bits-offset_in (s.second / 16)) (omega (arith, byte));
          number = number_below s.body bytes;
          body = number_front s.body bytes le;
          spells = key_is_of (drop 4 s.body);
        })

pub given_are : (ss : List Set) → AllByRecursion IsRead ss → SpellsGiven (the 4 ss) (given_in (first 4 ss))
given_are ss all =
    let r = the_read 4 ss refl all in
    let same : given_in (first 4 ss) ≡ given_in (Some (the 4 ss)) = given_in-or_empty 4 (first 4 ss) ∙ ap (λ (s : Set). given_in (Some s)) (sym (the-first 4 ss)) in
    subst (λ (g : Option Given). SpellsGiven (the 4 ss) g) (sym same) (given_are_of (the 4 ss) r.1 r.2 (shape_at 4 (the 4 ss) r.0 r.3))

-- ---- the XPN parameter set

highs_are_of : (s : Set) → IsBytes s.body → has_highs s ≡ true → SpellsHighs (Some s) (highs_in (Some s))
unfolding highs_in
highs_are_of s bytes e =
    let parts = and_parts (eqb s.kind 8) (eqb (length s.body) 8) e in
    let eight : length s.body ≡ 8 = eqb-true (length s.body) 8 parts.1 in
    let behind : 4 ≤ length (drop 4 s.body) = omega (arith, eight, length-drop 4 s.body) in
    let bytes_behind = IsBytes-drop 4 s.body bytes in
    let last : drop 4 (drop 4 s.body) ≡ [] = nil_from_length (drop 4 (drop 4 s.body)) (omega (arith, eight, length-drop 4 (drop 4 s.body), length-drop 4 s.body)) in
    let old : drop 4 s.body ≡ big_bytes 4 (big_number 4 (take 4 (drop 4 s.body))) =
    number_front (drop 4 s.body) bytes_behind behind ∙ ap (λ (x : List ℕ). big_bytes 4 (big_number 4 (take 4 (drop 4 s.body))) ++ x) last ∙ append-nil (big_bytes 4 (big_number 4 (take 4 (drop 4 s.body)))) in
    rw (number_long s.body (omega (arith, eight)), number_long (drop 4 s.body) behind) (
      number_front s.body bytes (omega (arith, eight)) ∙ ap (λ (x : List ℕ). big_bytes 4 (big_number 4 (take 4 s.body)) ++ x) old,
      record { latest = number_below s.body bytes; old = number_below (drop 4 s.body) bytes_behind },
    )

pub highs_are : (ss : List Set) → AllByRecursion IsRead ss → SpellsHighs (find has_highs ss) (highs_in (find has_highs ss))
unfolding highs_in
highs_are [] all = tt
highs_are (s ∷ ss) all =
    elim (has_highs s) as (λ t. has_highs s ≡ t → SpellsHighs (cond t (Some s) (find has_highs ss)) (highs_in (cond t (Some s) (find has_highs ss)))) [
      | true ↦ λ e. highs_are_of s all.0.body e
      | false ↦ λ e. highs_are ss all.1
    ] refl
