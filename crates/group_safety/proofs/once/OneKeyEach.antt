-- What the invariant gives: one key under an identifier, each key made, and one install of a SAK at
-- a station.
use Rattle.std.proofs.Common.{◌≡◌, ◌<◌, sym, ap, ◌∙◌, ℕ, List, [], ◌∷◌, map, true, filter, arith}
use Rattle.lan_base.specs.declared.key_id.KeyId.{KeyId}
use Rattle.aes_block.specs.Secrets.{secret_octets}
use Rattle.lan_core.specs.Ledgers.{Birth, Claim}
use Rattle.lan_base.specs.Differing.{AllDiffer}
use Rattle.group_safety.proofs.Members.{In, in-from_map, in-filter}
use Rattle.group_safety.proofs.once.Ledgers.{Handed, Installation, Book, current}
use Rattle.group_safety.proofs.once.Places.{in-tail, same-place}
use Rattle.group_safety.proofs.once.Places.{differs-from}
use Rattle.group_safety.proofs.once.Currents.{some-same, in-current}
use Rattle.group_safety.proofs.once.Invariant.{IsFalling, Inv, by_whom}

-- a pair of paths
pair-same : {X Y : Type 0} (p q : X × Y) → p.0 ≡ q.0 → p.1 ≡ q.1 → p ≡ q
pair-same p q e f = λ i. (e i, f i)

-- the octets of an install's SAK
abbrev pub octets_in : Installation → List ℕ
octets_in i = secret_octets i.key.sak

-- the installs of keys that were made there
abbrev pub made_in : List Installation → List Installation
made_in is = filter (λ i. i.made) is

-- two makes of one identifier are one
one-make : (b : Book) → Inv b → (m n : Installation) → In m b.installs → In n b.installs
    → m.made ≡ true → n.made ≡ true → m.key.id ≡ n.key.id → m ≡ n
one-make b v m n im jn mm nm e =
    same-place by_whom b.installs v.once m n im jn
    (pair-same (by_whom m) (by_whom n)
    (sym (v.own m im mm) ∙ ap (λ (k : KeyId). k.server) e ∙ v.own n jn nm) e)

pub one-key : (b : Book) → Inv b → (i j : Installation) → In i b.installs → In j b.installs
    → i.key.id ≡ j.key.id → i.key ≡ j.key
one-key b v i j hi hj e =
    let m = v.makers i hi in let n = v.makers j hj in
    let same = one-make b v m.0 n.0 m.1.place n.1.place m.1.made n.1.made
    (ap (λ (k : Handed). k.id) m.1.key ∙ e ∙ sym (ap (λ (k : Handed). k.id) n.1.key)) in
    sym m.1.key ∙ ap (λ (w : Installation). w.key) same ∙ n.1.key

-- each installed key was made
pub maker : (b : Book) → Inv b → (i : Installation) → In i b.installs
    → (m : Installation) × In m (made_in b.installs) × (m.key ≡ i.key)
maker b v i hi =
    let m = v.makers i hi in
    (m.0, in-filter (λ (i : Installation). i.made) b.installs m.0 m.1.place m.1.made, m.1.key)

-- two makes of one SAK are one
one-draw : (b : Book) → AllDiffer (map octets_in (made_in b.installs)) → (m n : Installation)
    → In m b.installs → In n b.installs → m.made ≡ true → n.made ≡ true
    → octets_in m ≡ octets_in n → m ≡ n
one-draw b fresh m n im jn mm nm e =
    same-place octets_in (made_in b.installs) fresh m n
    (in-filter (λ (i : Installation). i.made) b.installs m im mm)
    (in-filter (λ (i : Installation). i.made) b.installs n jn nm) e

-- a station installs a SAK once
pub one-install : (b : Book) → AllDiffer (map octets_in (made_in b.installs)) → Inv b
    → (i j : Installation) → In i b.installs → In j b.installs → i.station ≡ j.station
    → octets_in i ≡ octets_in j → i ≡ j
one-install b fresh v i j hi hj s e =
    let m = v.makers i hi in let n = v.makers j hj in
    let same = one-draw b fresh m.0 n.0 m.1.place n.1.place m.1.made n.1.made
    (ap (λ (k : Handed). secret_octets k.sak) m.1.key ∙ e
    ∙ sym (ap (λ (k : Handed). secret_octets k.sak) n.1.key)) in
    let life = some-same (sym m.1.current ∙ (λ t. current (s t) (same t).born) ∙ n.1.current) in
    same-place by_whom b.installs v.once i j hi hj
    (pair-same (by_whom i) (by_whom j) life
    (ap (λ (k : Handed). k.id) (sym m.1.key ∙ ap (λ (w : Installation). w.key) same ∙ n.1.key)))

-- where a claim stands
pub record NumberTaken : Type 0 where
  pub station : ℕ
  pub epoch : ℕ
  pub pn : ℕ

abbrev pub number_taken : Claim → NumberTaken
number_taken c = record { station = c.station; epoch = c.epoch; pn = c.pn }

-- no two claims have one number under one epoch of one station
pub claims-differ : (cs : List Claim) → IsFalling cs → AllDiffer (map number_taken cs)
claims-differ [] f = tt
claims-differ (c ∷ cs) f =
    (differs-from (number_taken c) (map number_taken cs) no, claims-differ cs f.1)
  where
    no : ¬ (In (number_taken c) (map number_taken cs))
    no h = let r = in-from_map number_taken cs (number_taken c) h in
        let less : r.0.pn < c.pn = f.0 r.0 r.1 (ap (λ (w : NumberTaken). w.station) (sym r.2))
        (ap (λ (w : NumberTaken). w.epoch) (sym r.2)) in
        let same : r.0.pn ≡ c.pn = ap (λ (w : NumberTaken). w.pn) (sym r.2) in
        omega (arith, less, same)

-- a station that has installed has lived
pub lived : (b : Book) → Inv b → (i : Installation) → In i b.installs
    → (birth : Birth) × In birth b.births × (birth.station ≡ i.station)
lived b v i h =
    let m = v.makers i h in
    let r = in-current i.station i.life m.0.born m.1.current in
    (r.0, in-tail m.0.born b.births r.0 (v.tails m.0 m.1.place) r.1, r.2)
