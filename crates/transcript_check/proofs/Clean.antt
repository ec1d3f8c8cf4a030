-- The facts of a run that uses each packet number once and has one key under each identifier: no
-- pair of them breaks.
use Rattle.std.proofs.Common.{◌≡◌, ◌≢◌, ◌∙◌, ◌<◌, ◌≤◌, ◌+◌, inl, inr, ℕ, zero, suc, Bool, true, false, cond, List, [], ◌∷◌, ◌++◌, map, length, filter, Option, Some, None, refl, sym, ap, subst, arith}
use Rattle.std.specs.Prelude.{All, ◌==◌, ◌&&◌, slice_get, option_map}
use Rattle.std.specs.List.{find}
use Rattle.std.specs.Option.{option_or}
use Rattle.std.proofs.Math.Nat.{mod-eq_of_lt}
use Rattle.std.proofs.lemmas.List.Elements.{All-head, All-tail}
use Rattle.std.proofs.lemmas.Bool.{and_parts, eqb-true, eq-eqb}
use Rattle.lan_base.specs.Differing.{DiffersFrom, AllDiffer}
use Rattle.lan_base.specs.declared.association_number.AssociationNumber.{AssociationNumber}
use Rattle.lan_base.specs.declared.key_id.KeyId.{KeyId}
use Rattle.aes_block.specs.declared.secret.Secret.{Secret}
use Rattle.aes_block.specs.Secrets.{secret_octets}
use Rattle.sak_exchange.proofs.Public.{find-passes}
use Rattle.lan_core.specs.declared.fact.Fact.{Fact}
use Rattle.lan_core.specs.declared.fact.Fact.TheVariants as shows
use Rattle.lan_core.specs.Run.{Run, facts_of, place, stations}
use Rattle.lan_core.specs.Places.{ArePlaced}
use Rattle.lan_core.specs.Ledgers.{with_one, gather, collect, Install, install_of, installs, Claim, claim_of, claims as the_claims}
use Rattle.group_safety.specs.Once.{Once, OneKey, use_of as used_by, sak_of, sci_of}
use Rattle.group_safety.proofs.Public.{In, in-contains, in-map, differs-in, same-place, in-find}
use Rattle.lan_core.specs.Counted.{AreCounted}
use Rattle.transcript.specs.Naming.{most_named}
use Rattle.transcript_reader.specs.Forms.{station_of}
use Rattle.transcript_check.specs.declared.named.Named.{Named}
use Rattle.transcript_check.specs.Judged.{BreaksOnce, BreaksOneKey, fact_at, sak_here, sak_in, Use, use_of, named_by, same_named}
use Rattle.least_pairs.proofs.Public.{some-same}
use Rattle.transcript_check.proofs.Ends.{some-of}
use Rattle.transcript_check.proofs.Telling.{named-itself}

-- ---- ledgers and facts

module _ {A : Type 0} (read : Fact → Option A) where
  gather-more : (facts more : List Fact) (xs : List A)
      → gather read (facts ++ more) xs ≡ gather read more (gather read facts xs)
  gather-more [] more xs = refl
  gather-more (f ∷ facts) more xs = gather-more facts more (with_one (read f) xs)

  pub collected : (r : Run) → collect read r ≡ gather read (facts_of r) []
  collected [] = refl
  collected (x ∷ r) =
      ap (gather read x.facts) (collected r) ∙ sym (gather-more (facts_of r) x.facts [])

  with-keeps : (o : Option A) (xs : List A) (a : A) → In a xs → In a (with_one o xs)
  with-keeps None xs a i = i
  with-keeps (Some x) xs a i = inr i

  gather-keeps : (facts : List Fact) (xs : List A) (a : A) → In a xs → In a (gather read facts xs)
  gather-keeps [] xs a i = i
  gather-keeps (f ∷ facts) xs a i = gather-keeps facts (with_one (read f) xs) a (with-keeps (read f) xs a i)

  pub gather-has : (facts : List Fact) (xs : List A) (f : Fact) (a : A) → In f facts
      → read f ≡ Some a → In a (gather read facts xs)
  gather-has [] xs f a i e = absurd i
  gather-has (g ∷ facts) xs f a (inl same) e =
      gather-keeps facts (with_one (read g) xs) a
      (subst (λ o. In a (with_one o xs)) (sym (ap read (sym same) ∙ e)) (inl refl))
  gather-has (g ∷ facts) xs f a (inr i) e = gather-has facts (with_one (read g) xs) f a i e

  tails-with : {B : Type 0} (g : A → B) (o : Option A) (xs : List A) → AllDiffer (map g (with_one o xs))
      → AllDiffer (map g xs)
  tails-with g None xs d = d
  tails-with g (Some x) xs d = d.1

  pub tails : {B : Type 0} (g : A → B) (facts : List Fact) (xs : List A)
      → AllDiffer (map g (gather read facts xs)) → AllDiffer (map g xs)
  tails g [] xs d = d
  tails g (f ∷ facts) xs d = tails-with g (read f) xs (tails g facts (with_one (read f) xs) d)

record IsSplit (xs : List Fact) (x y : Fact) : Type 0 where
  before : List Fact
  after : List Fact
  whole : xs ≡ before ++ y ∷ after
  there : In x before

split : (xs : List Fact) (k m : ℕ) (x y : Fact) → k < m → slice_get xs k ≡ Some x → slice_get xs m ≡ Some y
    → IsSplit xs x y
split [] k m x y less e f = absurd (cc f)
split (z ∷ xs) k zero x y less e f = absurd (omega (arith, less))
split (z ∷ xs) zero (suc m) x y less e f =
    let here = behind xs m y f in
    record { before = z ∷ here.0; after = here.1; whole = ap (λ w. z ∷ w) here.2; there = inl (sym (some-same e)) }
  where
    behind : (xs : List Fact) (m : ℕ) (y : Fact) → slice_get xs m ≡ Some y
        → (b : List Fact) × (a : List Fact) × (xs ≡ b ++ y ∷ a)
    behind [] m y f = absurd (cc f)
    behind (w ∷ xs) zero y f = ([], xs, ap (λ v. v ∷ xs) (some-same f))
    behind (w ∷ xs) (suc m) y f = let b = behind xs m y f in (w ∷ b.0, b.1, ap (λ v. w ∷ v) b.2)
split (z ∷ xs) (suc k) (suc m) x y less e f =
    let s = split xs k m x y (omega (arith, less)) e f in
    record { before = z ∷ s.before; after = s.after; whole = ap (λ w. z ∷ w) s.whole; there = inr s.there }

get-in : (xs : List Fact) (k : ℕ) (x : Fact) → slice_get xs k ≡ Some x → In x xs
get-in [] k x e = absurd (cc e)
get-in (y ∷ xs) zero x e = inl (sym (some-same e))
get-in (y ∷ xs) (suc k) x e = inr (get-in xs k x e)

at-in : (xs : List Fact) (k : ℕ) (x : Fact) → fact_at xs k ≡ Some x → In x xs
at-in xs zero x e = absurd (cc e)
at-in xs (suc k) x e = get-in xs k x e

split-at : (xs : List Fact) (k m : ℕ) (x y : Fact) → k < m → fact_at xs k ≡ Some x → fact_at xs m ≡ Some y
    → IsSplit xs x y
split-at xs zero m x y less e f = absurd (cc e)
split-at xs (suc k) zero x y less e f = absurd (cc f)
split-at xs (suc k) (suc m) x y less e f = split xs k m x y (omega (arith, less)) e f

-- what stands in a ledger
pub in-ledger : {A : Type 0} (read : Fact → Option A) (r : Run) (f : Fact) (a : A) → In f (facts_of r)
    → read f ≡ Some a → In a (collect read r)
in-ledger read r f a i e =
    subst (λ xs. In a xs) (sym (collected read r)) (gather-has read (facts_of r) [] f a i e)

-- ---- one key under each identifier

record IsInstall (f : Fact) (id : KeyId) (named : Named) : Type 0 where
  install : Install
  is : install_of f ≡ Some install
  id_is : install.id ≡ id
  named_is : record { an = install.an; sak = install.sak } ≡ named

installed : (f : Fact) (id : KeyId) (named : Named) → named_by f ≡ Some (id, named) → IsInstall f id named
installed (shows.Installed s i an epoch sak) id named e = record {
  install = record { station = s; id = i; an = an; epoch = epoch; sak = sak };
  is = refl;
  id_is = ap (λ (p : KeyId × Named). p.0) (some-same e);
  named_is = ap (λ (p : KeyId × Named). p.1) (some-same e);
}
installed _ id named e = absurd (cc e)

pub no-key-pair : (r : Run) → OneKey r → (a b : ℕ) → BreaksOneKey (facts_of r) a b → ⊥
unfolding installs
no-key-pair r one a b broken =
    let f = some-of named_by (fact_at (facts_of r) a) (broken.key, broken.one) broken.first in
    let g = some-of named_by (fact_at (facts_of r) b) (broken.key, broken.other) broken.second in
    let i = installed f.0 broken.key broken.one f.2 in
    let j = installed g.0 broken.key broken.other g.2 in
    let same = one i.install j.install
    (in-contains (installs r) i.install (in-ledger install_of r f.0 i.install (at-in (facts_of r) a f.0 f.1) i.is))
    (in-contains (installs r) j.install (in-ledger install_of r g.0 j.install (at-in (facts_of r) b g.0 g.1) j.is))
    (i.id_is ∙ sym j.id_is) in
    let named : broken.one ≡ broken.other =
    sym i.named_is ∙ (λ t. record { an = same.1 t; sak = same.0 t }) ∙ j.named_is in
    let yes : same_named broken.one broken.other ≡ true =
    subst (λ n. same_named broken.one n ≡ true) named (named-itself broken.one) in
    absurd (cc (sym yes ∙ broken.apart))

-- ---- one use of each packet number

-- a station and an epoch, of an install
pub record Slot : Type 0 where
  pub station : ℕ
  pub epoch : ℕ

abbrev pub slot_of : Install → Slot
slot_of i = record { station = i.station; epoch = i.epoch }

-- no station installs two keys under one epoch
abbrev pub InstallsOnce : Run → Type 0
InstallsOnce r = AllDiffer (map slot_of (installs r))

record IsUnder (f : Fact) (s epoch : ℕ) (sak : Secret) : Type 0 where
  install : Install
  is : install_of f ≡ Some install
  station_is : install.station ≡ s
  epoch_is : install.epoch ≡ epoch
  sak_is : install.sak ≡ sak

here-under : (f : Fact) (s epoch : ℕ) (sak : Secret) → sak_here s epoch f ≡ Some sak → IsUnder f s epoch sak
here-under (shows.Installed t i an e k) s epoch sak is = go ((t == s) && (e == epoch)) refl is
  where
    go : (b : Bool) → ((t == s) && (e == epoch)) ≡ b → cond b (Some k) None ≡ Some sak
        → IsUnder (shows.Installed t i an e k) s epoch sak
    go true passes is = let both = and_parts (t == s) (e == epoch) passes in record {
      install = record { station = t; id = i; an = an; epoch = e; sak = k };
      is = refl;
      station_is = eqb-true t s both.0;
      epoch_is = eqb-true e epoch both.1;
      sak_is = some-same is;
    }
    go false passes is = absurd (cc is)
here-under _ t epoch sak is = absurd (cc is)

in-under : (facts : List Fact) (s epoch : ℕ) (sak : Secret) → sak_in facts s epoch ≡ Some sak
    → (f : Fact) × In f facts × IsUnder f s epoch sak
in-under [] s epoch sak is = absurd (cc is)
in-under (f ∷ facts) s epoch sak is = go (sak_here s epoch f) refl is (in-under facts s epoch sak)
  where
    go : (o : Option Secret) → sak_here s epoch f ≡ o → option_or o (sak_in facts s epoch) ≡ Some sak
        → (sak_in facts s epoch ≡ Some sak → (f : Fact) × In f facts × IsUnder f s epoch sak)
        → (g : Fact) × In g (f ∷ facts) × IsUnder g s epoch sak
    go None none is later = let l = later is in (l.0, inr l.1, l.2)
    go (Some k) some is later = (f, inl refl, here-under f s epoch sak (some ∙ is))

find-some : {X : Type 0} (p : X → Bool) (xs : List X) (x : X) → In x xs → p x ≡ true → (y : X)
    × (find p xs ≡ Some y)
find-some p [] x i e = absurd i
find-some p (y ∷ ys) x (inl same) e =
    let here : p y ≡ true = ap p (sym same) ∙ e in (y, rw here refl)
find-some {X} p (y ∷ ys) x (inr i) e = go (p y) refl (find-some p ys x i e)
  where
    go : (b : Bool) → p y ≡ b → (z : X) × (find p ys ≡ Some z) → (z : X)
        × (find p (y ∷ ys) ≡ Some z)
    go true is later = (y, rw is refl)
    go false is later = (later.0, rw is later.1)

-- the first install of a station and an epoch in the facts is the one that the ledger finds
pub found-sak : (r : Run) → InstallsOnce r → (c : Claim) (sak : Secret)
    → sak_in (facts_of r) c.station c.epoch ≡ Some sak → sak_of r c ≡ Some (secret_octets sak)
unfolding installs
found-sak r once c sak is =
    let u = in-under (facts_of r) c.station c.epoch sak is in
    let i = u.2.install in
    let there = in-ledger install_of r u.0 i u.1 u.2.is in
    let passes : ((i.station == c.station) && (i.epoch == c.epoch)) ≡ true =
    rw (eq-eqb i.station c.station u.2.station_is, eq-eqb i.epoch c.epoch u.2.epoch_is) refl in
    let found = find-some (λ (j : Install). (j.station == c.station) && (j.epoch == c.epoch)) (installs r) i there passes in
    let j = found.0 in
    let both = and_parts (j.station == c.station) (j.epoch == c.epoch)
    (find-passes (λ (j : Install). (j.station == c.station) && (j.epoch == c.epoch)) (installs r) j found.1) in
    let stations : i.station ≡ j.station = u.2.station_is ∙ sym (eqb-true j.station c.station both.0) in
    let epochs : i.epoch ≡ j.epoch = u.2.epoch_is ∙ sym (eqb-true j.epoch c.epoch both.1) in
    let one : i ≡ j = same-place slot_of (installs r) once i j there
    (in-find (λ (j : Install). (j.station == c.station) && (j.epoch == c.epoch)) (installs r) j found.1)
    (λ t. record { station = stations t; epoch = epochs t }) in
    ap (option_map (λ (i : Install). secret_octets i.sak)) found.1
    ∙ ap (λ (i : Install). Some (secret_octets i.sak)) (sym one)
    ∙ ap (λ (k : Secret). Some (secret_octets k)) u.2.sak_is

record IsClaim (facts : List Fact) (f : Fact) (u : Use) : Type 0 where
  claim : Claim
  is : claim_of f ≡ Some claim
  place_is : claim.station ≡ place f
  station_is : station_of claim.station ≡ u.station
  pn_is : claim.pn ≡ u.pn
  sak_is : sak_in facts claim.station claim.epoch ≡ Some u.sak

claimed : (facts : List Fact) (f : Fact) (u : Use) → use_of facts f ≡ Some (u, tt) → IsClaim facts f u
claimed facts (shows.Claimed s an epoch pn) u e = go (sak_in facts s epoch) refl e
  where
    go : (o : Option Secret) → sak_in facts s epoch ≡ o
        → option_map {U = Use × Unit {0}} (λ sak. (record { station = station_of s; sak = sak; pn = pn }, tt)) o ≡ Some (u, tt)
        → IsClaim facts (shows.Claimed s an epoch pn) u
    go None none e = absurd (cc e)
    go (Some sak) some e =
        let same = ap (λ (p : Use × Unit {0}). p.0) (some-same e) in record {
          claim = record { station = s; an = an; epoch = epoch; pn = pn };
          is = refl;
          place_is = refl;
          station_is = ap (λ (w : Use). w.station) same;
          pn_is = ap (λ (w : Use). w.pn) same;
          sak_is = some ∙ ap (λ (w : Use). Some w.sak) same;
        }
claimed facts _ u e = absurd (cc e)

-- the newer of two facts with different places in a ledger differs from the older
apart-in : {A B : Type 0} (read : Fact → Option A) (g : A → B) (before after : List Fact) (x y : Fact) (a b : A)
    → In x before → read x ≡ Some a → read y ≡ Some b
    → AllDiffer (map g (gather read (before ++ y ∷ after) [])) → g b ≢ g a
apart-in read g before after x y a b i e f d =
    let whole = subst (λ w. AllDiffer (map g w)) (gather-more read before (y ∷ after) []) d in
    let short = tails read g after (with_one (read y) (gather read before [])) whole in
    let two = subst (λ o. AllDiffer (map g (with_one o (gather read before [])))) f short in
    differs-in (g b) (g a) (map g (gather read before [])) two.0
    (in-map g (gather read before []) a (gather-has read before [] x a i e))

-- the place of a fact of one group is that of its station
abbrev pub AreFew : Run → Type 0
AreFew r = (f : Fact) → In f (facts_of r) → place f < most_named

all-in : (P : Fact → Type 0) (xs : List Fact) (f : Fact) → All P xs → In f xs → P f
all-in P [] f all i = absurd i
all-in P (x ∷ xs) f all (inl same) = subst P (sym same) (All-head P x xs all)
all-in P (x ∷ xs) f all (inr i) = all-in P xs f (All-tail P x xs all) i

pub few-places : (r : Run) → length (stations r) ≤ most_named → ArePlaced r (facts_of r) → AreFew r
few-places r few placed f i =
    let less = all-in (λ (f : Fact). place f < length (stations r)) (facts_of r) f placed i in
    omega (arith, less, few)

one-station : (s t : ℕ) → s < most_named → t < most_named → station_of s ≡ station_of t → s ≡ t
one-station s t less below same = sym (mod-eq_of_lt less) ∙ same ∙ mod-eq_of_lt below

pub no-use-pair : (r : Run) → Once r → InstallsOnce r → AreFew r → (a b : ℕ) → BreaksOnce (facts_of r) a b → ⊥
unfolding the_claims
no-use-pair r once single few a b broken =
    let f = some-of (use_of (facts_of r)) (fact_at (facts_of r) a) (broken.key, tt) broken.first in
    let g = some-of (use_of (facts_of r)) (fact_at (facts_of r) b) (broken.key, tt) broken.second in
    let c = claimed (facts_of r) f.0 broken.key f.2 in
    let d = claimed (facts_of r) g.0 broken.key g.2 in
    let s = split-at (facts_of r) a b f.0 g.0 broken.order f.1 g.1 in
    let all = subst (λ w. AllDiffer (map (used_by r) w)) (collected claim_of r) once in
    let parted = subst (λ w. AllDiffer (map (used_by r) (gather claim_of w []))) s.whole all in
    let saks : sak_of r d.claim ≡ sak_of r c.claim =
    found-sak r single d.claim broken.key.sak d.sak_is ∙ sym (found-sak r single c.claim broken.key.sak c.sak_is) in
    let scis : sci_of r d.claim.station ≡ sci_of r c.claim.station =
    ap (sci_of r) (one-station d.claim.station c.claim.station
    (subst (λ (n : ℕ). n < most_named) (sym d.place_is) (few g.0 (at-in (facts_of r) b g.0 g.1)))
    (subst (λ (n : ℕ). n < most_named) (sym c.place_is) (few f.0 (at-in (facts_of r) a f.0 f.1)))
    (d.station_is ∙ sym c.station_is)) in
    let pns : d.claim.pn ≡ c.claim.pn = d.pn_is ∙ sym c.pn_is in
    apart-in claim_of (used_by r) s.before s.after f.0 g.0 c.claim d.claim s.there c.is d.is parted
    (λ t. record { sak = saks t; sci = scis t; pn = pns t })

-- ---- no install is refused

pub not-doubled : (r : Run) → InstallsOnce r → (before after : List Fact) (s : ℕ) (id : KeyId) (an : AssociationNumber) (epoch : ℕ) (sak : Secret)
    → facts_of r ≡ before ++ shows.Installed s id an epoch sak ∷ after → sak_in before s epoch ≡ None
unfolding installs
not-doubled r once before after s id an epoch sak whole = go (sak_in before s epoch) refl
  where
    this : Install
    this = record { station = s; id = id; an = an; epoch = epoch; sak = sak }

    parted : AllDiffer (map slot_of (gather install_of (before ++ shows.Installed s id an epoch sak ∷ after) []))
    parted = subst (λ w. AllDiffer (map slot_of (gather install_of w []))) whole
        (subst (λ w. AllDiffer (map slot_of w)) (collected install_of r) once)

    go : (o : Option Secret) → sak_in before s epoch ≡ o → o ≡ None
    go None is = refl
    go (Some k) is =
        let u = in-under before s epoch k is in
        let station = u.2.station_is in
        let same = u.2.epoch_is in
        absurd (apart-in install_of slot_of before after u.0 (shows.Installed s id an epoch sak) u.2.install this
        u.1 u.2.is refl parted (λ t. record { station = sym station t; epoch = sym same t }))

-- ---- epochs that count

abbrev of_station : ℕ → Install → Bool
of_station s j = j.station == s

counted-below : (older : List Install) (s : ℕ) → AreCounted older → (j : Install) → In j older → j.station ≡ s
    → j.epoch ≤ length (filter (of_station s) older)
counted-below [] s are j i same = absurd i
counted-below (k ∷ older) s are j (inl here) same =
    let station : k.station ≡ s = ap (λ (w : Install). w.station) (sym here) ∙ same in
    let passes : of_station s k ≡ true = eq-eqb k.station s station in
    let epoch : j.epoch ≡ length (filter (of_station s) older) + 1 =
    ap (λ (w : Install). w.epoch) here ∙ are.0 ∙ ap (λ t. length (filter (of_station t) older) + 1) station in
    rw passes (omega (arith, epoch))
counted-below (k ∷ older) s are j (inr i) same =
    go (of_station s k) refl (counted-below older s are.1 j i same)
  where
    go : (b : Bool) → of_station s k ≡ b → j.epoch ≤ length (filter (of_station s) older)
        → j.epoch ≤ length (filter (of_station s) (k ∷ older))
    go true is less = rw is (omega (arith, less))
    go false is less = rw is less

differs-where : (k : Install) (older : List Install) → ((j : Install) → In j older → slot_of k ≢ slot_of j)
    → DiffersFrom (slot_of k) (map slot_of older)
differs-where k [] each = tt
differs-where k (j ∷ older) each = (each j (inl refl), differs-where k older (λ i h. each i (inr h)))

pub counted-differ : (is : List Install) → AreCounted is → AllDiffer (map slot_of is)
counted-differ [] are = tt
counted-differ (k ∷ older) are = (
  differs-where k older (λ j i same.
      let station : j.station ≡ k.station = ap (λ (w : Slot). w.station) (sym same) in
      let epoch : k.epoch ≡ j.epoch = ap (λ (w : Slot). w.epoch) same in
      let less = counted-below older k.station are.1 j i station in
      let count = are.0 in
      omega (arith, epoch, less, count)),
  counted-differ older are.1,
)
