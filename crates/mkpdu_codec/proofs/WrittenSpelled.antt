-- What is written, followed by a check value, spells what was written.
use Rattle.std.specs.Prelude.{All, IfSome, replicate}
use Rattle.std.specs.List.{AllByRecursion, find}
use Rattle.std.proofs.Common.{◌≡◌, ◌≢◌, ℕ, zero, suc, ◌+◌, ◌*◌, ◌^◌, ◌<◌, ◌≤◌, inl, Bool, true, false, cond, eqb, List, [], ◌∷◌, ◌++◌, length, Option, Some, None, refl, sym, ap, subst, ◌∙◌, arith, lit<, lit≤, length-append, length-take, append_assoc}
use Rattle.std.proofs.lemmas.Bool.{ne_eqb}
use Rattle.std.proofs.lemmas.List.{append-nil, length-replicate}
use Rattle.std.proofs.lemmas.List.Elements.{All-from_recursion, recursion_from_All}
use Rattle.byteorder.specs.Endian.{big_bytes}
use Rattle.mkpdu_codec.specs.declared.announcement.Announcement.{Announcement}
use Rattle.mkpdu_codec.specs.declared.given.Given.{Given}
use Rattle.mkpdu_codec.specs.declared.high_halves.HighHalves.{HighHalves}
use Rattle.mkpdu_codec.specs.declared.key_use.Uses.{Uses}
use Rattle.mkpdu_codec.specs.declared.peer.Peer.{Peer}
use Rattle.mkpdu_codec.specs.declared.wrapped_key.WrappedKey.{WrappedKey}
use Rattle.mkpdu_codec.specs.declared.wrapped_key.WrappedKey.TheVariants.{Aes128, Aes256, Xpn128, Xpn256, Other}
use Rattle.mkpdu_codec.specs.Sets.{bit, missing, set, basic_body, peers_body, uses_body, uses_flags, given_body, given_flags, gcm_aes_256, gcm_aes_xpn_128, gcm_aes_xpn_256, IsPeer, IsKey, IsWrapped, IsGiven}
use Rattle.mkpdu_codec.specs.Written.{group_address, frame_header, basic_set, peers_set, uses_set, giving_set, key_set, given_set, sets, written, IsWritable, IsWritableKey}
use Rattle.mkpdu_codec.specs.Frames.{Set, IsSet, AreSets, the, SpellsPeers, SpellsUses, IsGiving, SpellsGiven, has_highs, SpellsHighs, Spells, IsOfItsTypes}
use Rattle.mkpdu_codec.proofs.SetOctets.{length-set, length-basic_body}
use Rattle.mkpdu_codec.proofs.Again.{length-peers_body}
use Rattle.mkpdu_codec.proofs.FrameAgain.{length-uses_body}
use Rattle.mkpdu_codec.proofs.Walking.{count, count-cons}

-- ---- the sets that are written

is_set : (kind second flags : ℕ) (body : List ℕ) → flags < 16 → length body < 4096 → IsSet (set kind second flags body) (record { kind = kind; second = second; flags = flags; body = body })
is_set kind second flags body f l = record { padding = replicate (missing (length body)) 0; whole = refl; flags = f; short = l; padded = length-replicate (missing (length body)) 0 }

abbrev peers_written : ℕ → List Peer → List Set
peers_written kind [] = []
peers_written kind (p ∷ ps) = record { kind = kind; second = 0; flags = 0; body = peers_body (p ∷ ps) } ∷ []

abbrev uses_written : Option Uses → List Set
uses_written None = []
uses_written (Some u) = record { kind = 3; second = uses_flags u; flags = 0; body = uses_body u } ∷ []

abbrev giving : Given → List ℕ → Set
giving g key = record { kind = 4; second = given_flags g.an g.offset * 16; flags = 0; body = given_body g.number key }

abbrev key_written : Given → WrappedKey → List Set
key_written g (Aes128 wrapped) = giving g wrapped ∷ []
key_written g (Aes256 wrapped) = giving g (gcm_aes_256 ++ wrapped) ∷ []
key_written g (Xpn128 wrapped) = giving g (gcm_aes_xpn_128 ++ wrapped) ∷ []
key_written g (Xpn256 wrapped) = giving g (gcm_aes_xpn_256 ++ wrapped) ∷ []
key_written g Other = []

abbrev given_written : Option Given → List Set
given_written None = []
given_written (Some g) = key_written g g.key

abbrev all_written : List Peer → List Peer → Option Uses → Option Given → List Set
all_written live potential uses given = peers_written 1 live ++ (peers_written 2 potential ++ (uses_written uses ++ given_written given))

one_set : (front : List ℕ) (s : Set) → IsSet front s → AreSets front (s ∷ [])
one_set front s is = (front, ([], (sym (append-nil front), is, refl)))

are_both : (ss ts : List Set) (a b : List ℕ) → AreSets a ss → AreSets b ts → AreSets (a ++ b) (ss ++ ts)
are_both [] ts a b x y = subst (λ (z : List ℕ). AreSets (z ++ b) ts) (sym x) y
are_both (s ∷ ss) ts a b x y =
    (x.0, (x.1.0 ++ b, (ap (λ (z : List ℕ). z ++ b) x.1.1.0 ∙ append_assoc x.0 x.1.0 b, x.1.1.1, are_both ss ts x.1.0 b x.1.1.2 y)))

are_peers : (kind : ℕ) (ps : List Peer) → AllByRecursion IsPeer ps → length ps ≤ 80 → AreSets (peers_set kind ps) (peers_written kind ps)
are_peers kind [] are few = refl
are_peers kind (p ∷ ps) are few =
    let len = length-peers_body (p ∷ ps) are in
    one_set (peers_set kind (p ∷ ps)) (record { kind = kind; second = 0; flags = 0; body = peers_body (p ∷ ps) }) (is_set kind 0 0 (peers_body (p ∷ ps)) (omega arith) (omega (arith, len, few)))

are_uses : (u : Option Uses) → IfSome u (λ v. IsKey v.latest × IsKey v.old) → AreSets (uses_set u) (uses_written u)
are_uses None is = refl
are_uses (Some u) is =
    let len = length-uses_body u is.0 is.1 in
    one_set (uses_set (Some u)) (record { kind = 3; second = uses_flags u; flags = 0; body = uses_body u }) (is_set 3 (uses_flags u) 0 (uses_body u) (omega arith) (omega (arith, len)))

are_giving : (g : Given) (key : List ℕ) → length key ≤ 48 → AreSets (giving_set g key) (giving g key ∷ [])
are_giving g key le = one_set (giving_set g key) (giving g key) (is_set 4 (given_flags g.an g.offset * 16) 0 (given_body g.number key) (omega arith) (omega (arith, le)))

are_key : (g : Given) (w : WrappedKey) → IsWrapped w → AreSets (key_set g w) (key_written g w)
are_key g (Aes128 wrapped) is = are_giving g wrapped (omega (arith, is))
are_key g (Aes256 wrapped) is = are_giving g (gcm_aes_256 ++ wrapped) (omega (arith, is))
are_key g (Xpn128 wrapped) is = are_giving g (gcm_aes_xpn_128 ++ wrapped) (omega (arith, is))
are_key g (Xpn256 wrapped) is = are_giving g (gcm_aes_xpn_256 ++ wrapped) (omega (arith, is))
are_key g Other is = refl

are_given : (g : Option Given) → IfSome g IsGiven → AreSets (given_set g) (given_written g)
are_given None is = refl
are_given (Some g) is = are_key g g.key is.key

-- ---- what they say

-- no set of another type is the one of a type
skips_peers : (k kind : ℕ) (ps : List Peer) (rest : List Set) → eqb kind k ≡ false → the k (peers_written kind ps ++ rest) ≡ the k rest
skips_peers k kind [] rest e = refl
skips_peers k kind (p ∷ ps) rest e = rw e refl

skips_uses : (k : ℕ) (u : Option Uses) (rest : List Set) → eqb 3 k ≡ false → the k (uses_written u ++ rest) ≡ the k rest
skips_uses k None rest e = refl
skips_uses k (Some u) rest e = rw e refl

skips_key : (k : ℕ) (g : Given) (w : WrappedKey) → eqb 4 k ≡ false → the k (key_written g w) ≡ the k []
skips_key k g (Aes128 wrapped) e = rw e refl
skips_key k g (Aes256 wrapped) e = rw e refl
skips_key k g (Xpn128 wrapped) e = rw e refl
skips_key k g (Xpn256 wrapped) e = rw e refl
skips_key k g Other e = refl

skips_given : (k : ℕ) (g : Option Given) → eqb 4 k ≡ false → the k (given_written g) ≡ the k []
skips_given k None e = refl
skips_given k (Some g) e = skips_key k g g.key e

peers_spelled : (kind : ℕ) (ps : List Peer) (rest : List Set) → All IsPeer ps → the kind rest ≡ the kind [] → eqb kind kind ≡ true → SpellsPeers (the kind (peers_written kind ps ++ rest)) ps
peers_spelled kind [] rest are others e = subst (λ (s : Set). SpellsPeers s []) (sym others) (record { body = refl; are_peers = are })
peers_spelled kind (p ∷ ps) rest are others e = rw e (record { body = refl; are_peers = are })

spells_live : (live potential : List Peer) (u : Option Uses) (g : Option Given) → All IsPeer live → SpellsPeers (the 1 (all_written live potential u g)) live
spells_live live potential u g are =
    peers_spelled 1 live (peers_written 2 potential ++ (uses_written u ++ given_written g)) are (skips_peers 1 2 potential (uses_written u ++ given_written g) refl ∙ skips_uses 1 u (given_written g) refl ∙ skips_given 1 g refl) refl

spells_potential : (live potential : List Peer) (u : Option Uses) (g : Option Given) → All IsPeer potential → SpellsPeers (the 2 (all_written live potential u g)) potential
spells_potential live potential u g are =
    subst (λ (s : Set). SpellsPeers s potential) (sym (skips_peers 2 1 live (peers_written 2 potential ++ (uses_written u ++ given_written g)) refl))
    (peers_spelled 2 potential (uses_written u ++ given_written g) are (skips_uses 2 u (given_written g) refl ∙ skips_given 2 g refl) refl)

skips_lists : (k : ℕ) (live potential : List Peer) (rest : List Set) → eqb 1 k ≡ false → eqb 2 k ≡ false → the k (peers_written 1 live ++ (peers_written 2 potential ++ rest)) ≡ the k rest
skips_lists k live potential rest e d = skips_peers k 1 live (peers_written 2 potential ++ rest) e ∙ skips_peers k 2 potential rest d

spells_uses : (live potential : List Peer) (u : Option Uses) (g : Option Given) → IfSome u (λ v. IsKey v.latest × IsKey v.old) → SpellsUses (the 3 (all_written live potential u g)) u
spells_uses live potential u g is = subst (λ (s : Set). SpellsUses s u) (sym (skips_lists 3 live potential (uses_written u ++ given_written g) refl refl)) (go u is) where
  go : (u : Option Uses) → IfSome u (λ v. IsKey v.latest × IsKey v.old) → SpellsUses (the 3 (uses_written u ++ given_written g)) u
  go (Some u) is = (refl, refl, is.0, is.1)
  go None is = subst (λ (s : Set). SpellsUses s None) (sym (skips_given 3 g refl)) refl

-- the set of a key spells what gives that key
spells_key : (g : Given) (w : WrappedKey) → g.key ≡ w → g.number < 2 ^ 32 → IsWrapped w → IsWritableKey w → IsGiving (the 4 (key_written g w)) g
spells_key g (Aes128 wrapped) e n is may = record { key = wrapped; second = omega arith; number = n; body = refl; spells = rw e (is, refl) }
spells_key g (Aes256 wrapped) e n is may = record { key = gcm_aes_256 ++ wrapped; second = omega arith; number = n; body = refl; spells = rw e (is, refl) }
spells_key g (Xpn128 wrapped) e n is may = record { key = gcm_aes_xpn_128 ++ wrapped; second = omega arith; number = n; body = refl; spells = rw e (is, refl) }
spells_key g (Xpn256 wrapped) e n is may = record { key = gcm_aes_xpn_256 ++ wrapped; second = omega arith; number = n; body = refl; spells = rw e (is, refl) }
spells_key g Other e n is may = absurd may

spells_given : (live potential : List Peer) (u : Option Uses) (g : Option Given) → IfSome g IsGiven → IfSome g (λ v. IsWritableKey v.key) → SpellsGiven (the 4 (all_written live potential u g)) g
spells_given live potential u g is may =
    subst (λ (s : Set). SpellsGiven s g) (sym (skips_lists 4 live potential (uses_written u ++ given_written g) refl refl ∙ skips_uses 4 u (given_written g) refl)) (go g is may) where
      go : (g : Option Given) → IfSome g IsGiven → IfSome g (λ v. IsWritableKey v.key) → SpellsGiven (the 4 (given_written g)) g
      go None is may = refl
      go (Some g) is may = spells_key g g.key refl is.number is.key may

-- ---- none of them comes twice

count-most : (k kind : ℕ) (s : Set) → s.kind ≡ kind → count k (s ∷ []) ≤ cond (eqb kind k) 1 0
count-most k kind s e = rw (count-cons k s [], e) (omega arith)

count-peers : (k kind : ℕ) (ps : List Peer) → count k (peers_written kind ps) ≤ cond (eqb kind k) 1 0
count-peers k kind [] = omega arith
count-peers k kind (p ∷ ps) = count-most k kind (record { kind = kind; second = 0; flags = 0; body = peers_body (p ∷ ps) }) refl

count-uses : (k : ℕ) (u : Option Uses) → count k (uses_written u) ≤ cond (eqb 3 k) 1 0
count-uses k None = omega arith
count-uses k (Some u) = count-most k 3 (record { kind = 3; second = uses_flags u; flags = 0; body = uses_body u }) refl

count-key : (k : ℕ) (g : Given) (w : WrappedKey) → count k (key_written g w) ≤ cond (eqb 4 k) 1 0
count-key k g (Aes128 wrapped) = count-most k 4 (giving g wrapped) refl
count-key k g (Aes256 wrapped) = count-most k 4 (giving g (gcm_aes_256 ++ wrapped)) refl
count-key k g (Xpn128 wrapped) = count-most k 4 (giving g (gcm_aes_xpn_128 ++ wrapped)) refl
count-key k g (Xpn256 wrapped) = count-most k 4 (giving g (gcm_aes_xpn_256 ++ wrapped)) refl
count-key k g Other = omega arith

count-given : (k : ℕ) (g : Option Given) → count k (given_written g) ≤ cond (eqb 4 k) 1 0
count-given k None = omega arith
count-given k (Some g) = count-key k g g.key

count-append : (k : ℕ) (ss ts : List Set) → count k (ss ++ ts) ≡ count k ss + count k ts
count-append k [] ts = omega arith
count-append k (s ∷ ss) ts = let a = count-cons k s (ss ++ ts) in let b = count-cons k s ss in let c = count-append k ss ts in omega (arith, a, b, c)

one_each : (k : ℕ) → cond (eqb 1 k) 1 0 + (cond (eqb 2 k) 1 0 + (cond (eqb 3 k) 1 0 + cond (eqb 4 k) 1 0)) ≤ 1
one_each zero = lit≤ tt
one_each (suc zero) = lit≤ tt
one_each (suc (suc zero)) = lit≤ tt
one_each (suc (suc (suc zero))) = lit≤ tt
one_each (suc (suc (suc (suc zero)))) = lit≤ tt
one_each (suc (suc (suc (suc (suc k))))) =
    let a = ne_eqb 1 (suc (suc (suc (suc (suc k))))) (λ e. omega (arith, e)) in
    let b = ne_eqb 2 (suc (suc (suc (suc (suc k))))) (λ e. omega (arith, e)) in
    let c = ne_eqb 3 (suc (suc (suc (suc (suc k))))) (λ e. omega (arith, e)) in
    let d = ne_eqb 4 (suc (suc (suc (suc (suc k))))) (λ e. omega (arith, e)) in
    rw (a, b, c, d) (lit≤ tt)

written_once : (live potential : List Peer) (u : Option Uses) (g : Option Given) (k : ℕ) → count k (all_written live potential u g) ≤ 1
written_once live potential u g k =
    omega (arith, one_each k, count-peers k 1 live, count-peers k 2 potential, count-uses k u, count-given k g, count-append k (peers_written 1 live) (peers_written 2 potential ++ (uses_written u ++ given_written g)), count-append k (peers_written 2 potential) (uses_written u ++ given_written g), count-append k (uses_written u) (given_written g))

-- ---- none of them is an ICV Indicator

abbrev NoIndicator : List Set → Type 0
NoIndicator ss = AllByRecursion (λ s. s.kind ≢ 255) ss

none_in_both : (ss ts : List Set) → NoIndicator ss → NoIndicator ts → NoIndicator (ss ++ ts)
none_in_both [] ts x y = y
none_in_both (s ∷ ss) ts x y = (x.0, none_in_both ss ts x.1 y)

none_in_peers : (kind : ℕ) (ps : List Peer) → kind ≢ 255 → NoIndicator (peers_written kind ps)
none_in_peers kind [] other = tt
none_in_peers kind (p ∷ ps) other = (other, tt)

none_in_uses : (u : Option Uses) → NoIndicator (uses_written u)
none_in_uses None = tt
none_in_uses (Some u) = ((λ e. omega (arith, e)), tt)

none_in_key : (g : Given) (w : WrappedKey) → NoIndicator (key_written g w)
none_in_key g (Aes128 wrapped) = ((λ e. omega (arith, e)), tt)
none_in_key g (Aes256 wrapped) = ((λ e. omega (arith, e)), tt)
none_in_key g (Xpn128 wrapped) = ((λ e. omega (arith, e)), tt)
none_in_key g (Xpn256 wrapped) = ((λ e. omega (arith, e)), tt)
none_in_key g Other = tt

none_in_given : (g : Option Given) → NoIndicator (given_written g)
none_in_given None = tt
none_in_given (Some g) = none_in_key g g.key

none_written : (live potential : List Peer) (u : Option Uses) (g : Option Given) → NoIndicator (all_written live potential u g)
none_written live potential u g =
    none_in_both (peers_written 1 live) (peers_written 2 potential ++ (uses_written u ++ given_written g)) (none_in_peers 1 live (λ e. omega (arith, e)))
    (none_in_both (peers_written 2 potential) (uses_written u ++ given_written g) (none_in_peers 2 potential (λ e. omega (arith, e)))
    (none_in_both (uses_written u) (given_written g) (none_in_uses u) (none_in_given g)))

-- ---- none of them has high halves

without : (ss ts : List Set) → find has_highs ss ≡ None → find has_highs ts ≡ None → find has_highs (ss ++ ts) ≡ None
without [] ts x y = y
without (s ∷ ss) ts x y =
    elim (has_highs s) as (λ t. cond t (Some s) (find has_highs ss) ≡ None → cond t (Some s) (find has_highs (ss ++ ts)) ≡ None) [
      | true ↦ λ e. absurd cc
      | false ↦ λ e. without ss ts e y
    ] x

without_in_peers : (kind : ℕ) (ps : List Peer) → eqb kind 8 ≡ false → find has_highs (peers_written kind ps) ≡ None
without_in_peers kind [] other = refl
without_in_peers kind (p ∷ ps) other = rw other refl

without_in_uses : (u : Option Uses) → find has_highs (uses_written u) ≡ None
without_in_uses None = refl
without_in_uses (Some u) = refl

without_in_key : (g : Given) (w : WrappedKey) → find has_highs (key_written g w) ≡ None
without_in_key g (Aes128 wrapped) = refl
without_in_key g (Aes256 wrapped) = refl
without_in_key g (Xpn128 wrapped) = refl
without_in_key g (Xpn256 wrapped) = refl
without_in_key g Other = refl

without_in_given : (g : Option Given) → find has_highs (given_written g) ≡ None
without_in_given None = refl
without_in_given (Some g) = without_in_key g g.key

spells_none : (found : Option Set) (h : Option HighHalves) → found ≡ None → h ≡ None → SpellsHighs found h
spells_none found h e d = rw (e, d) tt

spells_highs : (live potential : List Peer) (u : Option Uses) (g : Option Given) (h : Option HighHalves) → h ≡ None → SpellsHighs (find has_highs (all_written live potential u g)) h
spells_highs live potential u g h none =
    spells_none (find has_highs (all_written live potential u g)) h
    (without (peers_written 1 live) (peers_written 2 potential ++ (uses_written u ++ given_written g)) (without_in_peers 1 live refl)
    (without (peers_written 2 potential) (uses_written u ++ given_written g) (without_in_peers 2 potential refl)
    (without (uses_written u) (given_written g) (without_in_uses u) (without_in_given g)))) none

-- ---- how long they are

set_most : (kind second flags most : ℕ) (body : List ℕ) → length body ≤ most → length (set kind second flags body) ≤ most + 7
set_most kind second flags most body le = let len = length-set kind second flags body in let few : missing (length body) < 4 = omega arith in omega (arith, len, few, le)

peers_most : (kind : ℕ) (ps : List Peer) → AllByRecursion IsPeer ps → length ps ≤ 80 → length (peers_set kind ps) ≤ 1287
peers_most kind [] are few = omega arith
peers_most kind (p ∷ ps) are few = set_most kind 0 0 1280 (peers_body (p ∷ ps)) (let len = length-peers_body (p ∷ ps) are in omega (arith, len, few))

uses_most : (u : Option Uses) → IfSome u (λ v. IsKey v.latest × IsKey v.old) → length (uses_set u) ≤ 47
uses_most None is = omega arith
uses_most (Some u) is = set_most 3 (uses_flags u) 0 40 (uses_body u) (let len = length-uses_body u is.0 is.1 in omega (arith, len))

giving_most : (g : Given) (key : List ℕ) → length key ≤ 48 → length (giving_set g key) ≤ 59
giving_most g key le = set_most 4 (given_flags g.an g.offset * 16) 0 52 (given_body g.number key) (omega (arith, le))

key_most : (g : Given) (w : WrappedKey) → IsWrapped w → length (key_set g w) ≤ 59
key_most g (Aes128 wrapped) is = giving_most g wrapped (omega (arith, is))
key_most g (Aes256 wrapped) is = giving_most g (gcm_aes_256 ++ wrapped) (omega (arith, is))
key_most g (Xpn128 wrapped) is = giving_most g (gcm_aes_xpn_128 ++ wrapped) (omega (arith, is))
key_most g (Xpn256 wrapped) is = giving_most g (gcm_aes_xpn_256 ++ wrapped) (omega (arith, is))
key_most g Other is = omega arith

given_most : (g : Option Given) → IfSome g IsGiven → length (given_set g) ≤ 59
given_most None is = omega arith
given_most (Some g) is = key_most g g.key is.key

-- ---- the whole frame

laid_out : (source body : List ℕ) → frame_header source (length body + 16) ++ body ≡ group_address ++ (source ++ (0x88 ∷ 0x8e ∷ 3 ∷ 5 ∷ (big_bytes 2 (length body + 16) ++ body)))
laid_out source body = ap (λ (x : List ℕ). group_address ++ x) (append_assoc source (0x88 ∷ 0x8e ∷ 3 ∷ 5 ∷ big_bytes 2 (length body + 16)) body)

flags_fit : (b : Bool) → bit b * 8 + 6 < 16
flags_fit true = lit< tt
flags_fit false = lit< tt

pub written_spells : (a : Announcement) (check : List ℕ) → IsWritable a → IsOfItsTypes a → length check ≡ 16 → Spells (written a ++ check) a (length (written a)) check
written_spells a check may is sixteen =
    let live = recursion_from_All IsPeer a.live is.live in
    let potential = recursion_from_All IsPeer a.potential is.potential in
    let keys = is.uses in
    let body : List ℕ = basic_body a.sci.0 a.mi.0 a.mn a.ckn in
    let len = length-basic_body a.sci.0 a.mi.0 a.mn a.ckn is.sci is.mi in
    let others : List Set = all_written a.live a.potential a.uses a.given in
    let middle : List ℕ = peers_set 1 a.live ++ (peers_set 2 a.potential ++ (uses_set a.uses ++ given_set a.given)) in
    let six : length a.source.0 ≡ 6 = omega (arith, ap length may.source, length-take 6 a.sci.0, is.sci) in
    let most : length (sets a) + 16 < 2 ^ 16 = omega (
      arith,
      set_most 1 a.priority (bit a.server * 8 + 6) 60 (basic_body a.sci.0 a.mi.0 a.mn a.ckn) (omega (arith, len, may.named.1)),
      peers_most 1 a.live live may.live,
      peers_most 2 a.potential potential may.potential,
      uses_most a.uses keys,
      given_most a.given is.given,
      length-append (basic_set a) (peers_set 1 a.live ++ (peers_set 2 a.potential ++ (uses_set a.uses ++ given_set a.given))),
      length-append (peers_set 1 a.live) (peers_set 2 a.potential ++ (uses_set a.uses ++ given_set a.given)),
      length-append (peers_set 2 a.potential) (uses_set a.uses ++ given_set a.given),
      length-append (uses_set a.uses) (given_set a.given),
    ) in
    record {
      parts = record { destination = group_address; source = a.source.0; version = 3; body = sets a; check = check; behind = [] };
      basic = record { kind = 1; second = a.priority; flags = bit a.server * 8 + 6; body = basic_body a.sci.0 a.mi.0 a.mn a.ckn };
      others = all_written a.live a.potential a.uses a.given;
      whole = ap (λ (x : List ℕ). x ++ check) (laid_out a.source.0 (sets a)) ∙ ap (λ (x : List ℕ). (group_address ++ (a.source.0 ++ (0x88 ∷ 0x8e ∷ 3 ∷ 5 ∷ (big_bytes 2 (length (sets a) + 16) ++ sets a)))) ++ x) (sym (append-nil check));
      is_frame = record { destination = refl; group = refl; source = six; body = most; check = sixteen };
      is_body = record {
        front = basic_set a;
        middle = peers_set 1 a.live ++ (peers_set 2 a.potential ++ (uses_set a.uses ++ given_set a.given));
        indicator = [];
        whole = ap (λ (x : List ℕ). basic_set a ++ x) (sym (append-nil (peers_set 1 a.live ++ (peers_set 2 a.potential ++ (uses_set a.uses ++ given_set a.given)))));
        is_basic = is_set 1 a.priority (bit a.server * 8 + 6) (basic_body a.sci.0 a.mi.0 a.mn a.ckn) (flags_fit a.server) (omega (arith, len, may.named.1));
        are_others = are_both (peers_written 1 a.live) (peers_written 2 a.potential ++ (uses_written a.uses ++ given_written a.given)) (peers_set 1 a.live) (peers_set 2 a.potential ++ (uses_set a.uses ++ given_set a.given)) (are_peers 1 a.live live may.live)
            (are_both (peers_written 2 a.potential) (uses_written a.uses ++ given_written a.given) (peers_set 2 a.potential) (uses_set a.uses ++ given_set a.given) (are_peers 2 a.potential potential may.potential)
            (are_both (uses_written a.uses) (given_written a.given) (uses_set a.uses) (given_set a.given) (are_uses a.uses keys) (are_given a.given is.given)));
        is_indicator = inl refl;
        no_indicator = All-from_recursion (λ s. s.kind ≢ 255) (all_written a.live a.potential a.uses a.given) (none_written a.live a.potential a.uses a.given);
        once = λ k low high. written_once a.live a.potential a.uses a.given k;
      };
      covers = ap length (laid_out a.source.0 (sets a));
      checked = refl;
      source = refl;
      says = record { priority = refl; server = omega arith; body = refl; sci = is.sci; mi = is.mi; mn = is.mn; named = may.named };
      live = spells_live a.live a.potential a.uses a.given is.live;
      potential = spells_potential a.live a.potential a.uses a.given is.potential;
      uses = spells_uses a.live a.potential a.uses a.given keys;
      given = spells_given a.live a.potential a.uses a.given is.given may.given;
      highs = spells_highs a.live a.potential a.uses a.given a.highs may.highs;
    }
