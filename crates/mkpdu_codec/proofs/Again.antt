-- What the fields spell is read again.
use Rattle.std.specs.List.{AllByRecursion}
use Rattle.std.specs.Prelude.{◌&&◌}
use Rattle.std.specs.List.{starts_with}
use Rattle.std.proofs.Common.{◌≡◌, ℕ, zero, suc, ◌+◌, ◌*◌, ◌/◌, ◌%◌, ◌^◌, ◌<◌, ◌≤◌, Bool, true, false, cond, leb, eqb, List, [], ◌∷◌, ◌++◌, length, drop, Option, Some, None, refl, sym, ap, subst, ◌∙◌, arith, lit<, length-append, length-drop, append_assoc, get_or, eq-eqb}
use Rattle.std.proofs.lemmas.Bool.{le-leb, eqb-true, ne_eqb}
use Rattle.std.proofs.lemmas.Bool.Decides.{Decides-eqb}
use Rattle.std.proofs.lemmas.Slice.Eq.{starts_is}
use Rattle.std.proofs.lemmas.List.{append-nil, drop_at}
use Rattle.std.proofs.lemmas.List.Elements.{recursion_from_All}
use Rattle.byteorder.specs.Endian.{big_bytes}
use Rattle.byteorder.specs.Numbers.{big_number-reads_back}
use Rattle.lan_base.proofs.Public.{number_of-few}
use Rattle.lan_base.specs.declared.address.Mi.{Mi}
use Rattle.lan_base.specs.declared.address.Sci.{Sci}
use Rattle.mkpdu_codec.specs.declared.announcement.Announcement.{Announcement}
use Rattle.mkpdu_codec.specs.declared.given.Given.{Given}
use Rattle.mkpdu_codec.specs.declared.high_halves.HighHalves.{HighHalves}
use Rattle.mkpdu_codec.specs.declared.key_use.KeyUse.{KeyUse}
use Rattle.mkpdu_codec.specs.declared.key_use.Uses.{Uses}
use Rattle.mkpdu_codec.specs.declared.peer.Peer.{Peer}
use Rattle.mkpdu_codec.specs.declared.wrapped_key.WrappedKey.{WrappedKey}
use Rattle.mkpdu_codec.specs.declared.wrapped_key.WrappedKey.TheVariants.{Aes128, Aes256, Xpn128, Xpn256, Other}
use Rattle.mkpdu_codec.specs.Sets.{bit, agility, peer, peers_body, use_body, use_flags, gcm_aes_256, gcm_aes_xpn_128, gcm_aes_xpn_256, IsPeer, IsKey}
use Rattle.mkpdu_codec.specs.Frames.{Set, the, SpellsPeers, SpellsUses, IsOfSuite, SpellsKey, SpellsGiven, SpellsHighs, SpellsBasic}
use Rattle.mkpdu_codec.specs.Fields.{an_in, offset_in, number_at, mi_at, sci_at, entry_at, entries_at, peers_in, key_at, uses_in, wrapped_in, key_in, given_in, highs_in, Basics, basic_in}
use Rattle.mkpdu_codec.proofs.SetOctets.{length-basic_body}
use Rattle.mkpdu_codec.proofs.TwoBits.{an_in-number_of, offset_in-offset_bits, offset_bits-few}
use Rattle.mkpdu_codec.proofs.Taking.{octets_at-append, octets_at-short}

pub number_again : (n : ℕ) (rest : List ℕ) → n < 2 ^ 32 → number_at (big_bytes 4 n ++ rest) ≡ Some (n, rest)
unfolding number_at
number_again n rest lt = rw (octets_at-append 4 (big_bytes 4 n) rest refl, big_number-reads_back 4 n [] lt) refl

pub mi_again : (mi : Mi) (rest : List ℕ) → length mi.0 ≡ 12 → mi_at (mi.0 ++ rest) ≡ Some (mi, rest)
unfolding mi_at
mi_again mi rest len = rw (octets_at-append 12 mi.0 rest len) refl

pub sci_again : (sci : Sci) (rest : List ℕ) → length sci.0 ≡ 8 → sci_at (sci.0 ++ rest) ≡ Some (sci, rest)
unfolding sci_at
sci_again sci rest len = rw (octets_at-append 8 sci.0 rest len) refl

-- ---- peers

pub entry_again : (p : Peer) (rest : List ℕ) → IsPeer p → entry_at (peer p ++ rest) ≡ Some (p, rest)
unfolding entry_at
entry_again p rest is =
    rw (append_assoc p.mi.0 (big_bytes 4 p.mn) rest, mi_again p.mi (big_bytes 4 p.mn ++ rest) is.mi, number_again p.mn rest is.mn) refl

length-peer : (p : Peer) → IsPeer p → length (peer p) ≡ 16
length-peer p is = length-append p.mi.0 (big_bytes 4 p.mn) ∙ rw is.mi refl

pub entries_again : (n : ℕ) (ps : List Peer) → AllByRecursion IsPeer ps → length (peers_body ps) ≤ n → entries_at n (peers_body ps) ≡ ps
unfolding entries_at entry_at mi_at
entries_again zero [] are le = refl
entries_again zero (p ∷ ps) are le = absurd (let len = length-peer p are.0 in omega (arith, len, le, length-append (peer p) (peers_body ps)))
entries_again (suc n) [] are le = refl
entries_again (suc n) (p ∷ ps) are le =
    let len = length-peer p are.0 in
    rw (entry_again p (peers_body ps) are.0) (ap (λ (xs : List Peer). p ∷ xs) (entries_again n ps are.1 (omega (arith, len, le, length-append (peer p) (peers_body ps)))))

pub length-peers_body : (ps : List Peer) → AllByRecursion IsPeer ps → length (peers_body ps) ≡ 16 * length ps
length-peers_body [] are = refl
length-peers_body (p ∷ ps) are =
    let len = length-peer p are.0 in
    let others = length-peers_body ps are.1 in
    omega (arith, len, others, length-append (peer p) (peers_body ps))

-- the first set of a type
abbrev pub first : ℕ → List Set → Option Set
first k [] = None
first k (s ∷ ss) = cond (eqb s.kind k) (Some s) (first k ss)

abbrev pub or_empty : ℕ → Option Set → Set
or_empty k None = record { kind = k; second = 0; flags = 0; body = [] }
or_empty k (Some s) = s

pub the-first : (k : ℕ) (ss : List Set) → the k ss ≡ or_empty k (first k ss)
the-first k [] = refl
the-first k (s ∷ ss) =
    elim (eqb s.kind k) as (λ t. cond t s (the k ss) ≡ or_empty k (cond t (Some s) (first k ss))) [
      | true ↦ refl
      | false ↦ the-first k ss
    ]

pub peers_in-or_empty : (k : ℕ) (o : Option Set) → peers_in o ≡ entries_at (length (or_empty k o).body) (or_empty k o).body
unfolding peers_in entries_at
peers_in-or_empty k None = refl
peers_in-or_empty k (Some s) = refl

pub peers_again : (k : ℕ) (ss : List Set) (ps : List Peer) → SpellsPeers (the k ss) ps → peers_in (first k ss) ≡ ps
peers_again k ss ps spells =
    let body : (or_empty k (first k ss)).body ≡ peers_body ps = ap (λ (s : Set). s.body) (sym (the-first k ss)) ∙ spells.body in
    peers_in-or_empty k (first k ss) ∙ ap (λ (b : List ℕ). entries_at (length b) b) body ∙ entries_again (length (peers_body ps)) ps (recursion_from_All IsPeer ps spells.are_peers) (omega arith)

-- ---- SAK Use

bit_small : (b : Bool) → bit b < 2
bit_small true = lit< tt
bit_small false = lit< tt

bit_again : (b : Bool) → eqb (bit b) 1 ≡ b
bit_again true = refl
bit_again false = refl

key_again : (u : KeyUse) (rest : List ℕ) → IsKey u → key_at (use_flags u) (use_body u ++ rest) ≡ Some (u, rest)
unfolding key_at
key_again u rest is =
    let regrouped : use_body u ++ rest ≡ u.server.0 ++ (big_bytes 4 u.number ++ (big_bytes 4 u.lowest ++ rest)) =
    append_assoc u.server.0 (big_bytes 4 u.number ++ big_bytes 4 u.lowest) rest ∙ ap (λ (x : List ℕ). u.server.0 ++ x) (append_assoc (big_bytes 4 u.number) (big_bytes 4 u.lowest) rest) in
    let t = bit_small u.tx in
    let r = bit_small u.rx in
    let four = number_of-few u.an in
    let an : an_in (use_flags u / 4) ≡ u.an = an_in-number_of (use_flags u / 4) u.an (omega (arith, four, t, r)) in
    let tx : use_flags u / 2 % 2 ≡ bit u.tx = omega (arith, t, r) in
    let rx : use_flags u % 2 ≡ bit u.rx = omega (arith, t, r) in
    ap (key_at (use_flags u)) regrouped
    ∙ rw (
      mi_again u.server (big_bytes 4 u.number ++ (big_bytes 4 u.lowest ++ rest)) is.server,
      number_again u.number (big_bytes 4 u.lowest ++ rest) is.number,
      number_again u.lowest rest is.lowest,
      an,
      tx,
      rx,
      bit_again u.tx,
      bit_again u.rx,
    ) refl

pub uses_in-or_empty : (k : ℕ) (o : Option Set) → uses_in o ≡ uses_in (Some (or_empty k o))
unfolding uses_in key_at mi_at
uses_in-or_empty k None = refl
uses_in-or_empty k (Some s) = refl

uses_of_set : (s : Set) (u : Option Uses) → SpellsUses s u → uses_in (Some s) ≡ u
unfolding uses_in key_at mi_at
uses_of_set s None spells = rw spells refl
uses_of_set s (Some u) spells = go where
  t : bit u.old.tx < 2
  t = bit_small u.old.tx

  r : bit u.old.rx < 2
  r = bit_small u.old.rx

  small : use_flags u.old < 16
  small = omega (arith, number_of-few u.old.an, t, r)

  latest : s.second / 16 ≡ use_flags u.latest
  latest = omega (arith, spells.0, small)

  old : s.second % 16 ≡ use_flags u.old
  old = omega (arith, spells.0, small)

  whole : use_body u.old ≡ use_body u.old ++ []
  whole = sym (append-nil (use_body u.old))

  first_key : key_at (s.second / 16) s.body ≡ Some (u.latest, use_body u.old)
  first_key = rw (latest, spells.1) (key_again u.latest (use_body u.old) spells.2)

  second_key : key_at (s.second % 16) (use_body u.old) ≡ Some (u.old, [])
  second_key = ap (λ (b : List ℕ). key_at (s.second % 16) b) whole ∙ ap (λ (n : ℕ). key_at n (use_body u.old ++ [])) old ∙ key_again u.old [] spells.3

  go : uses_in (Some s) ≡ Some u
  go = uses_by s first_key second_key where
    uses_by : (s : Set) → key_at (s.second / 16) s.body ≡ Some (u.latest, use_body u.old) → key_at (s.second % 16) (use_body u.old) ≡ Some (u.old, []) → uses_in (Some s) ≡ Some u
    uses_by s a b = rw (a, b) refl

pub uses_again : (k : ℕ) (ss : List Set) (u : Option Uses) → SpellsUses (the k ss) u → uses_in (first k ss) ≡ u
uses_again k ss u spells = uses_in-or_empty k (first k ss) ∙ uses_of_set (or_empty k (first k ss)) u (subst (λ (s : Set). SpellsUses s u) (the-first k ss) spells)

-- ---- Distributed SAK

pub short_number : (octets : List ℕ) → length octets < 4 → number_at octets ≡ None
unfolding number_at
short_number octets lt = rw (octets_at-short 4 octets lt) refl

pub given_in-or_empty : (k : ℕ) (o : Option Set) → given_in o ≡ given_in (Some (or_empty k o))
unfolding given_in
given_in-or_empty k None = sym (rw (short_number [] (omega arith)) refl)
given_in-or_empty k (Some s) = refl

pub suite_again : (suite : List ℕ) (count : ℕ) (key wrapped : List ℕ) → length suite ≡ 8 → IsOfSuite suite count key wrapped → wrapped_in suite count key ≡ Some wrapped
suite_again suite count key wrapped eight is =
    let len : length key ≡ 8 + count = omega (arith, ap length is.1, length-append suite wrapped, eight, is.0) in
    let starts : starts_with eqb key suite ≡ true = (starts_is Decides-eqb key suite (starts_with eqb key suite) refl).1 wrapped is.1 in
    let behind : drop 8 key ≡ wrapped = ap (drop 8) is.1 ∙ drop_at suite wrapped 8 eight in
    rw (starts, eq-eqb (length key) (8 + count) len, behind) refl

-- what is taken as a wrapped key of a suite is one
pub suite_is : (suite : List ℕ) (count : ℕ) (key wrapped : List ℕ) → length suite ≡ 8 → wrapped_in suite count key ≡ Some wrapped → IsOfSuite suite count key wrapped
suite_is suite count key wrapped eight e = go (starts_with eqb key suite) (eqb (length key) (8 + count)) refl refl e where
  go : (t l : Bool) → starts_with eqb key suite ≡ t → eqb (length key) (8 + count) ≡ l → cond (t && l) (Some (drop 8 key)) None ≡ Some wrapped → IsOfSuite suite count key wrapped
  go true true t l f =
      let front : key ≡ suite ++ drop (length suite) key = (starts_is Decides-eqb key suite true (sym t)).0 refl in
      let same : drop 8 key ≡ wrapped = cc in
      (omega (arith, eqb-true (length key) (8 + count) l, ap length same, length-drop 8 key), front ∙ ap (λ (n : ℕ). suite ++ drop n key) eight ∙ ap (λ (x : List ℕ). suite ++ x) same)
  go true false t l f = absurd cc
  go false l t d f = absurd cc

-- what is not taken as one is none
pub suite_not : (suite : List ℕ) (count : ℕ) (key : List ℕ) → length suite ≡ 8 → wrapped_in suite count key ≡ None → (wrapped : List ℕ) → IsOfSuite suite count key wrapped → ⊥
suite_not suite count key eight none wrapped is = let some = sym none ∙ suite_again suite count key wrapped eight is in absurd cc

not_suite : (suite : List ℕ) (count : ℕ) (key : List ℕ) → length suite ≡ 8 → ((wrapped : List ℕ) → IsOfSuite suite count key wrapped → ⊥) → wrapped_in suite count key ≡ None
not_suite suite count key eight other = go (wrapped_in suite count key) refl where
  go : (o : Option (List ℕ)) → wrapped_in suite count key ≡ o → o ≡ None
  go None e = refl
  go (Some wrapped) e = absurd (other wrapped (suite_is suite count key wrapped eight e))

-- the identifiers of two suites differ in their last octet
apart : (suite other : List ℕ) (m n : ℕ) (key wrapped : List ℕ) → length suite ≡ 8 → length other ≡ 8 → ((x : List ℕ) → get_or (suite ++ x) 7 0 ≡ m) → ((x : List ℕ) → get_or (other ++ x) 7 0 ≡ n) → (m ≡ n → ⊥)
    → (count : ℕ) → key ≡ suite ++ wrapped → wrapped_in other count key ≡ None
apart suite other m n key wrapped eight long last_of last_other differ count is =
    not_suite other count key long (λ x is_other. differ (sym (last_of wrapped) ∙ ap (λ (y : List ℕ). get_or y 7 0) (sym is ∙ is_other.1) ∙ last_other x))

-- a key with an identifier isn't that of GCM-AES-128
with_suite : (suite : List ℕ) (count : ℕ) (key wrapped : List ℕ) → length suite ≡ 8 → 24 ≤ count → IsOfSuite suite count key wrapped → eqb (length key) 24 ≡ false
with_suite suite count key wrapped eight le is = ne_eqb (length key) 24 (λ e. omega (arith, e, ap length is.1, length-append suite wrapped, eight, is.0, le))

wrapped_again : (key : List ℕ) (w : WrappedKey) → SpellsKey key w → key_in key ≡ w
wrapped_again key (Aes128 wrapped) spells = rw (spells.1, eq-eqb (length wrapped) 24 spells.0) refl
wrapped_again key (Aes256 wrapped) spells =
    let long = with_suite gcm_aes_256 40 key wrapped refl (omega arith) spells in
    rw (long, suite_again gcm_aes_256 40 key wrapped refl spells) refl
wrapped_again key (Xpn128 wrapped) spells =
    let long = with_suite gcm_aes_xpn_128 24 key wrapped refl (omega arith) spells in
    let first = apart gcm_aes_xpn_128 gcm_aes_256 3 2 key wrapped refl refl (λ x. refl) (λ x. refl) (λ e. omega (arith, e)) 40 spells.1 in
    rw (long, first, suite_again gcm_aes_xpn_128 24 key wrapped refl spells) refl
wrapped_again key (Xpn256 wrapped) spells =
    let long = with_suite gcm_aes_xpn_256 40 key wrapped refl (omega arith) spells in
    let first = apart gcm_aes_xpn_256 gcm_aes_256 4 2 key wrapped refl refl (λ x. refl) (λ x. refl) (λ e. omega (arith, e)) 40 spells.1 in
    let second = apart gcm_aes_xpn_256 gcm_aes_xpn_128 4 3 key wrapped refl refl (λ x. refl) (λ x. refl) (λ e. omega (arith, e)) 24 spells.1 in
    rw (long, first, second, suite_again gcm_aes_xpn_256 40 key wrapped refl spells) refl
wrapped_again key Other spells =
    rw (ne_eqb (length key) 24 spells.0, not_suite gcm_aes_256 40 key refl spells.1, not_suite gcm_aes_xpn_128 24 key refl spells.2, not_suite gcm_aes_xpn_256 40 key refl spells.3) refl

given_of_set : (s : Set) (g : Option Given) → SpellsGiven s g → given_in (Some s) ≡ g
unfolding given_in
given_of_set s None spells = rw (spells, short_number [] (omega arith)) refl
given_of_set s (Some g) spells =
    let few = number_of-few g.an in
    let two = offset_bits-few g.offset in
    let a : an_in (s.second / 64) ≡ g.an = an_in-number_of (s.second / 64) g.an (omega (arith, spells.second, few, two)) in
    let o : offset_in (s.second / 16) ≡ g.offset = offset_in-offset_bits (s.second / 16) g.offset (omega (arith, spells.second, few, two)) in
    rw (spells.body, number_again g.number spells.key spells.number, a, o, wrapped_again spells.key g.key spells.spells) refl

pub given_again : (k : ℕ) (ss : List Set) (g : Option Given) → SpellsGiven (the k ss) g → given_in (first k ss) ≡ g
given_again k ss g spells = given_in-or_empty k (first k ss) ∙ given_of_set (or_empty k (first k ss)) g (subst (λ (s : Set). SpellsGiven s g) (the-first k ss) spells)

-- ---- the XPN parameter set

pub highs_again : (found : Option Set) (h : Option HighHalves) → SpellsHighs found h → highs_in found ≡ h
unfolding highs_in
highs_again None None spells = refl
highs_again None (Some h) spells = absurd spells
highs_again (Some s) None spells = absurd spells
highs_again (Some s) (Some h) spells =
    let last : number_at (big_bytes 4 h.old) ≡ Some (h.old, []) = ap number_at (sym (append-nil (big_bytes 4 h.old))) ∙ number_again h.old [] spells.1.old in
    rw (spells.0, number_again h.latest (big_bytes 4 h.old) spells.1.latest, last) refl

-- ---- the Basic Parameter Set

abbrev pub basics_of_announcement : Announcement → Basics
basics_of_announcement a = record { priority = a.priority; server = a.server; sci = a.sci; mi = a.mi; mn = a.mn; agility = agility; ckn = a.ckn }

pub length-basic : (s : Set) (a : Announcement) → SpellsBasic s a → length s.body ≡ 28 + length a.ckn
length-basic s a spells = ap length spells.body ∙ length-basic_body a.sci.0 a.mi.0 a.mn a.ckn spells.sci spells.mi

pub basic_again : (s : Set) (a : Announcement) → SpellsBasic s a → basic_in s ≡ Some (basics_of_announcement a)
unfolding basic_in
basic_again s a spells =
    let len = length-basic s a spells in
    let low : leb 29 (length s.body) ≡ true = le-leb 29 (length s.body) (omega (arith, len, spells.named.0)) in
    let high : leb (length s.body) 60 ≡ true = le-leb (length s.body) 60 (omega (arith, len, spells.named.1)) in
    let server : eqb (s.flags / 8) 1 ≡ a.server = ap (λ (n : ℕ). eqb n 1) spells.server ∙ bit_again a.server in
    rw (
      low,
      high,
      spells.body,
      sci_again a.sci (a.mi.0 ++ (big_bytes 4 a.mn ++ (agility ++ a.ckn))) spells.sci,
      mi_again a.mi (big_bytes 4 a.mn ++ (agility ++ a.ckn)) spells.mi,
      number_again a.mn (agility ++ a.ckn) spells.mn,
      octets_at-append 4 agility a.ckn refl,
      spells.priority,
      server,
    ) refl
