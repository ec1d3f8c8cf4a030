-- What a turn of a life tells the current word, by the keys that transmit before and after it.
use Rattle.std.proofs.Common.{◌≡◌, ◌<◌, ℕ, Bool, true, false, cond, List, [], ◌∷◌, ◌++◌, map, refl, sym, ap, ◌∙◌, subst, arith, inl, inr, append_assoc, append-nil}
use Rattle.lan_base.specs.declared.association_number.AssociationNumber.{AssociationNumber}
use Rattle.std.proofs.Common.{Option, Some, None, filter, is_some}
use Rattle.std.specs.Prelude.{option_map, option_to_list}
use Rattle.std.proofs.lemmas.Bool.{eq-eqb, cases_Bool, cases_lt}
use Rattle.lan_base.specs.declared.address.Mi.{Mi}
use Rattle.lan_base.specs.AssociationNumbers.{same_an}
use Rattle.sak_exchange.specs.declared.change.Change.{Change}
use Rattle.sak_exchange.specs.declared.change.Change.TheVariants.{Dropped, Retired, Installed}
use Rattle.sak_exchange.specs.declared.held_key.Key.{Key}
use Rattle.sak_exchange.specs.Histories.{Keying, ticked, installed, began, begun_at, has_begun}
use Rattle.sak_exchange.specs.Held.{KeepsRules, ends as ended_by, received, latest, old, transmitting, held, shown as seen_as}
use Rattle.sak_exchange.specs.Beginning.{Beginning, retired}
use Rattle.sak_exchange.specs.Outcomes.{retiring, beginning, installing}
use Rattle.sak_exchange.specs.Lives.{Has, apart}
use Rattle.sak_exchange.proofs.Public.{by_test, by_option}
use Rattle.sak_exchange.proofs.Public.{begun-upto, latest-epoch, may-begin}
use Rattle.sak_exchange.proofs.Public.{other-an, same-an-equal, shape}
use Rattle.sak_exchange.proofs.Public as shapes
use Rattle.sak_exchange.proofs.Public.{transmitting-is, current-begun, current-unbegun, current-none, keys-ticked, keys-dropped, keys-began, keys-installed}
use Rattle.group_safety.proofs.Public.{with_key, with_began}
use Rattle.group_safety.proofs.Public.{transmitting-last}
use Rattle.association_slots.specs.declared.view.Current.{Current}
use Rattle.association_slots.specs.Views.{absent_after, present_at}
use Rattle.worker_races.specs.merge.Table.{is_an, an_of, calls, IsTold}
use Rattle.worker_races.specs.merge.Table as told
use Rattle.worker_races.proofs.weaving.KeysMove.{last-began}

-- two association numbers that differ are not the same
unlike-an : (a b : AssociationNumber) → (a ≡ b → ⊥) → same_an a b ≡ false
unlike-an a b differ = elim (cases_Bool (same_an a b)) [
  | inl same ↦ absurd (differ (same-an-equal a b same))
  | inr other ↦ other
]

-- ---- what transmits after one entry

-- a tick with an elected server leaves it
pub sends-ticked : (base : ℕ) (h : List Keying) → KeepsRules base h → transmitting (ticked true ∷ h) ≡ transmitting h
sends-ticked base h kept =
    by_option (latest h)
    (λ none. transmitting-is base (ticked true ∷ h) kept ∙ (current-none base (ticked true ∷ h) kept ((keys-ticked base h kept).latest ∙ none)
    ∙ sym (transmitting-is base h kept ∙ current-none base h kept none)))
    (λ l is. by_test (has_begun h l.epoch)
    (λ done. transmitting-is base (ticked true ∷ h) kept ∙ (current-begun (ticked true ∷ h) l ((keys-ticked base h kept).latest ∙ is) done
    ∙ sym (transmitting-is base h kept ∙ current-begun h l is done)))
    (λ un. transmitting-is base (ticked true ∷ h) kept ∙ (current-unbegun (ticked true ∷ h) l ((keys-ticked base h kept).latest ∙ is) un
    ∙ (still l is un ∙ sym (transmitting-is base h kept ∙ current-unbegun h l is un)))))
  where
    never : (o : Option ℕ) → is_some o ≡ false → o ≡ None
    never None un = refl
    never (Some n) un = absurd (cc un)

    still : (l : Key) → latest h ≡ Some l → has_begun h l.epoch ≡ false → old (ticked true ∷ h) ≡ old h
    still l is un =
        let none = never (begun_at h l.epoch) un in
        (keys-ticked base h kept).old ∙ (rw (is, none) refl)

-- an install leaves it where it has another AN
pub sends-installed : (base : ℕ) (h : List Keying) (r : Option (List Mi)) (n : Key) → KeepsRules base (installed r n ∷ h)
    → transmitting (installed r n ∷ h) ≡ apart n.an (transmitting h)
sends-installed base h r n kept =
    let keys = keys-installed base h r n kept in
    transmitting-is base (installed r n ∷ h) kept
    ∙ (current-unbegun (installed r n ∷ h) n keys.latest fresh
    ∙ (keys.old ∙ ap (apart n.an) (sym (transmitting-is base h kept.2))))
  where
    fresh : has_begun h n.epoch ≡ false
    fresh = elim (cases_Bool (has_begun h n.epoch)) [
      | inl done ↦ absurd (let up = begun-upto base h n.epoch kept.2 done in let next = kept.0 in omega (arith, up, next))
      | inr un ↦ un
    ]

-- a beginning of the latest key makes it that
pub sends-began : (base : ℕ) (h : List Keying) (l : Key) → KeepsRules base (began l.epoch ∷ h) → latest h ≡ Some l
    → transmitting (began l.epoch ∷ h) ≡ Some l
sends-began base h l kept is =
    transmitting-is base (began l.epoch ∷ h) kept
    ∙ current-begun (began l.epoch ∷ h) l ((keys-began base h l.epoch kept.1).latest ∙ is) (rw (eq-eqb l.epoch l.epoch refl) refl)

pub sends-dropped : (base : ℕ) (h : List Keying) → KeepsRules base h → transmitting (ticked false ∷ h) ≡ None
sends-dropped base h kept = transmitting-is base (ticked false ∷ h) kept ∙ current-none base (ticked false ∷ h) kept (keys-dropped h).latest

-- ---- keys that are received

-- no two have one AN
pub an-one : (base : ℕ) (h : List Keying) → KeepsRules base h → (j k : Key) → Has j (received h) → Has k (received h) → j.an ≡ k.an → j ≡ k
an-one base h kept j k hj hk same = elim (shape base h kept) [
  | shapes.none r ↦ absurd (subst (Has j) r hj)
  | shapes.one l r last ↦ one l (subst (Has j) r hj) (subst (Has k) r hk)
  | shapes.two l o r last b ↦ two l o b.apart (subst (Has j) r hj) (subst (Has k) r hk)
]
  where
    one : (l : Key) → Has j (l ∷ []) → Has k (l ∷ []) → j ≡ k
    one l (inl a) (inl b) = sym a ∙ b
    one l (inl a) (inr b) = absurd b
    one l (inr a) b = absurd a

    an-is : {a b : Key} → a ≡ b → a.an ≡ b.an
    an-is e = ap (λ (w : Key). w.an) e

    two : (l o : Key) → same_an l.an o.an ≡ false → Has j (l ∷ o ∷ []) → Has k (l ∷ o ∷ []) → j ≡ k
    two l o differ (inl a) (inl b) = sym a ∙ b
    two l o differ (inl a) (inr (inl b)) = absurd (other-an l.an o.an differ (an-is a ∙ (same ∙ sym (an-is b))))
    two l o differ (inr (inl a)) (inl b) = absurd (other-an l.an o.an differ (an-is b ∙ (sym same ∙ sym (an-is a))))
    two l o differ (inr (inl a)) (inr (inl b)) = sym a ∙ b
    two l o differ (inl a) (inr (inr b)) = absurd b
    two l o differ (inr (inl a)) (inr (inr b)) = absurd b
    two l o differ (inr (inr a)) b = absurd a

filter-has : (p : Key → Bool) (ks : List Key) (k : Key) → Has k ks → p k ≡ true → Has k (filter p ks)
filter-has p [] k has is = has
filter-has p (j ∷ ks) k (inl same) is = rw (ap p same ∙ is) (inl same)
filter-has p (j ∷ ks) k (inr later) is = go (filter-has p ks k later is) (p j)
  where
    go : Has k (filter p ks) → (b : Bool) → Has k (cond b (j ∷ filter p ks) (filter p ks))
    go has true = inr has
    go has false = has

pub filter-passes : (p : Key → Bool) (ks : List Key) (k : Key) → Has k (filter p ks) → Has k ks × (p k ≡ true)
filter-passes p [] k has = absurd has
filter-passes p (j ∷ ks) k has = go (λ h. filter-passes p ks k h) (p j) refl has
  where
    go : (Has k (filter p ks) → Has k ks × (p k ≡ true)) → (b : Bool) → p j ≡ b → Has k (cond b (j ∷ filter p ks) (filter p ks)) → Has k (j ∷ ks) × (p k ≡ true)
    go rest true is (inl same) = (inl same, ap p (sym same) ∙ is)
    go rest true is (inr later) = let r = rest later in (inr r.0, r.1)
    go rest false is has = let r = rest has in (inr r.0, r.1)

-- ---- drops

abbrev pub drops : List Keying → List Key → List Change
drops h ks = map (λ k. Dropped (held h k)) ks

drops-none : (h : List Keying) (top : ℕ) (o : Option AssociationNumber) (ks : List Key) (rest : List Change)
    → ((k : Key) → Has k ks → is_an k.an o ≡ false) → calls top o (drops h ks ++ rest) ≡ calls top o rest
drops-none h top o [] rest none = refl
drops-none h top o (k ∷ ks) rest none = rw (none k (inl refl)) (drops-none h top o ks rest (λ j has. none j (inr has)))

drops-one : (h : List Keying) (top : ℕ) (an : AssociationNumber) (ks : List Key) (rest : List Change) (k : Key) → Has k ks → k.an ≡ an
    → calls top (Some an) (drops h ks ++ rest) ≡ absent_after top ∷ calls top None rest
drops-one h top an [] rest k has is = absurd has
drops-one h top an (j ∷ ks) rest k has is = elim (cases_Bool (same_an j.an an)) [
  | inl same ↦ rw same (ap (λ ws. absent_after top ∷ ws) (drops-none h top None ks rest (λ i h. refl)))
  | inr other ↦ rw other (drops-one h top an ks rest k (elim has [
    | inl here ↦ absurd (other-an j.an an other (ap (λ (w : Key). w.an) here ∙ is))
    | inr later ↦ later
  ]) is)
]

-- ---- stages

-- what an install tells
abbrev gone : ℕ → AssociationNumber → Option Key → List Current
gone top an None = []
gone top an (Some k) = cond (same_an an k.an) (absent_after top ∷ []) []

begun-sent : (h : List Keying) (k : Key) → transmitting h ≡ Some k → has_begun h k.epoch ≡ true
begun-sent h k sends = last-began h k.epoch (transmitting-last h k sends).0

install-calls : (base : ℕ) (h : List Keying) (r : Option (List Mi)) (n : Key) (top : ℕ) (rest : List Change) → KeepsRules base (installed r n ∷ h)
    → calls top (an_of (transmitting h)) ((installing h r n).changes ++ rest)
    ≡ gone top n.an (transmitting h) ++ calls top (an_of (transmitting (installed r n ∷ h))) rest
install-calls base h r n top rest kept =
    ap (λ cs. calls top (an_of (transmitting h)) cs) (append_assoc (drops h ks) (Installed (seen_as false n) ∷ []) rest)
    ∙ (go (transmitting h) refl
    ∙ ap (λ o. gone top n.an (transmitting h) ++ calls top (an_of o) rest) (sym (sends-installed base h r n kept)))
  where
    ks : List Key
    ks = filter (ended_by (installed r n) h) (received h)

    go : (o : Option Key) → transmitting h ≡ o
        → calls top (an_of o) (drops h (filter (ended_by (installed r n) h) (received h)) ++ (Installed (seen_as false n) ∷ rest))
        ≡ gone top n.an o ++ calls top (an_of (apart n.an o)) rest
    go None sends = drops-none h top None (filter (ended_by (installed r n) h) (received h)) (Installed (seen_as false n) ∷ rest) (λ k has. refl)
    go (Some k) sends = elim (cases_Bool (same_an n.an k.an)) [
      | inl same ↦ rw same (drops-one h top k.an (filter (ended_by (installed r n) h) (received h)) (Installed (seen_as false n) ∷ rest) k
          (filter-has (ended_by (installed r n) h) (received h) k (transmitting-last h k sends).1 (rw same refl)) refl)
      | inr other ↦ rw other (drops-none h top (Some k.an) (filter (ended_by (installed r n) h) (received h)) (Installed (seen_as false n) ∷ rest)
          (λ j has. unlike-an j.an k.an (λ is. (let passes = filter-passes (ended_by (installed r n) h) (received h) j has in
          let one = an-one base h kept.2 j k passes.0 (transmitting-last h k sends).1 is in
          let ends : ended_by (installed r n) h k ≡ true = subst (λ (w : Key). ended_by (installed r n) h w ≡ true) one passes.1 in
          let begun = begun-sent h k sends in
          let no : ended_by (installed r n) h k ≡ false = rw (other, begun) refl in
          cc (ends, no)))))
    ]

-- what a beginning tells
abbrev pointed : Option Beginning → List Current
pointed None = []
pointed (Some b) = present_at b.key.an b.key.epoch ∷ []

-- ---- turns

-- the latest key, which has not begun, is later than the one that transmits
pub latest-later : (base : ℕ) (h : List Keying) (l : Key) → KeepsRules base (began l.epoch ∷ h) → latest h ≡ Some l
    → (k : Key) → transmitting h ≡ Some k → k.epoch < l.epoch
latest-later base h l kept is k sends =
    let begun = begun-sent h k sends in
    let most = begun-upto base h k.epoch kept.1 begun in
    let last = latest-epoch base h l kept.1 is in
    let un = (may-begin h l.epoch kept.0).unbegun in
    elim (cases_lt k.epoch l.epoch) [
      | inl less ↦ less
      | inr more ↦ absurd (let same : k.epoch ≡ l.epoch = omega (arith, most, last, more) in
          let yes = subst (λ e. has_begun h e ≡ true) same begun in cc (yes, un))
    ]

-- a new key is later than it
new-later : (base : ℕ) (h : List Keying) (r : Option (List Mi)) (n b : Key) → KeepsRules base (installed r n ∷ h) → latest (installed r n ∷ h) ≡ Some b
    → (k : Key) → transmitting h ≡ Some k → k.epoch < b.epoch
new-later base h r n b kept is k sends =
    let same : n ≡ b = some-same (sym (keys-installed base h r n kept).latest ∙ is) in
    let e = ap (λ (w : Key). w.epoch) same in
    let most = begun-upto base h k.epoch kept.2 (begun-sent h k sends) in
    let next = kept.0 in
    omega (arith, e, most, next)
  where
    some-same : {a b : Key} → Some a ≡ Some b → a ≡ b
    some-same e = cc e

-- an install, or none, and then a beginning, or none: as at a hearing
pub told-taken : (base : ℕ) (h : List Keying) (r : Option (List Mi)) (key : Option Key) (follow : Option Beginning) (top : ℕ) (cs : List Change)
    → KeepsRules base (with_began follow (with_key r key h))
    → ((b : Beginning) → follow ≡ Some b → latest (with_key r key h) ≡ Some b.key)
    → (key ≡ None → (o : Option AssociationNumber) (rest : List Change) → calls top o (cs ++ rest) ≡ calls top o rest)
    → ((n : Key) → key ≡ Some n → cs ≡ (installing h r n).changes)
    → (h2 : List Keying)
    → IsTold top (transmitting h) (transmitting (with_began follow (with_key r key h)))
    (calls top (an_of (transmitting h)) (cs ++ (beginning h2 follow).changes))
told-taken base h r None None top cs whole newest quiet takes h2 =
    told.stays refl (quiet refl (an_of (transmitting h)) [])
told-taken base h r None (Some b) top cs whole newest quiet takes h2 =
    told.begins b.key (sends-began base h b.key whole (newest b refl)) (latest-later base h b.key whole (newest b refl)) (quiet refl (an_of (transmitting h)) (beginning h2 (Some b)).changes)
told-taken base h r (Some n) None top cs whole newest quiet takes h2 =
    go (transmitting h) refl
  where
    words : calls top (an_of (transmitting h)) (cs ++ []) ≡ gone top n.an (transmitting h)
    words = ap (λ l. calls top (an_of (transmitting h)) (l ++ [])) (takes n refl) ∙ (install-calls base h r n top [] whole ∙ append-nil (gone top n.an (transmitting h)))

    go : (o : Option Key) → transmitting h ≡ o → IsTold top (transmitting h) (transmitting (installed r n ∷ h)) (calls top (an_of (transmitting h)) (cs ++ []))
    go None is = told.stays (sends-installed base h r n whole ∙ (ap (apart n.an) is ∙ sym is)) (words ∙ ap (gone top n.an) is)
    go (Some k) is = elim (cases_Bool (same_an n.an k.an)) [
      | inl same ↦ told.ends k is (sends-installed base h r n whole ∙ (ap (apart n.an) is ∙ rw same refl)) (words ∙ (ap (gone top n.an) is ∙ rw same refl))
      | inr other ↦ told.stays (sends-installed base h r n whole ∙ (ap (apart n.an) is ∙ (rw other refl ∙ sym is))) (words ∙ (ap (gone top n.an) is ∙ rw other refl))
    ]
told-taken base h r (Some n) (Some b) top cs whole newest quiet takes h2 =
    go (transmitting h) refl
  where
    sends : transmitting (began b.key.epoch ∷ installed r n ∷ h) ≡ Some b.key
    sends = sends-began base (installed r n ∷ h) b.key whole (newest b refl)

    words : calls top (an_of (transmitting h)) (cs ++ (beginning h2 (Some b)).changes) ≡ gone top n.an (transmitting h) ++ pointed (Some b)
    words =
        ap (λ l. calls top (an_of (transmitting h)) (l ++ (beginning h2 (Some b)).changes)) (takes n refl)
        ∙ install-calls base h r n top (beginning h2 (Some b)).changes whole.1

    go : (o : Option Key) → transmitting h ≡ o
        → IsTold top (transmitting h) (transmitting (began b.key.epoch ∷ installed r n ∷ h)) (calls top (an_of (transmitting h)) (cs ++ (beginning h2 (Some b)).changes))
    go None is = told.begins b.key sends (new-later base h r n b.key whole.1 (newest b refl)) (words ∙ ap (λ o. gone top n.an o ++ pointed (Some b)) is)
    go (Some k) is = elim (cases_Bool (same_an n.an k.an)) [
      | inl same ↦ told.changes k b.key is sends (new-later base h r n b.key whole.1 (newest b refl) k is) (words ∙ (ap (λ o. gone top n.an o ++ pointed (Some b)) is ∙ rw same refl))
      | inr other ↦ told.begins b.key sends (new-later base h r n b.key whole.1 (newest b refl)) (words ∙ (ap (λ o. gone top n.an o ++ pointed (Some b)) is ∙ rw other refl))
    ]

-- all keys are dropped: at a tick with no server, and at the end of a life
pub told-dropped : (h : List Keying) (top : ℕ) (after : Option Key) → after ≡ None
    → IsTold top (transmitting h) after (calls top (an_of (transmitting h)) (drops h (received h)))
told-dropped h top after none = go (transmitting h) refl
  where
    go : (o : Option Key) → transmitting h ≡ o → IsTold top (transmitting h) after (calls top (an_of (transmitting h)) (drops h (received h)))
    go None is = told.stays (none ∙ sym is) (ap (λ o. calls top (an_of o) (drops h (received h))) is
        ∙ (ap (λ l. calls top None l) (sym (append-nil (drops h (received h)))) ∙ drops-none h top None (received h) [] (λ k has. refl)))
    go (Some k) is = told.ends k is none (ap (λ o. calls top (an_of o) (drops h (received h))) is
        ∙ (ap (λ l. calls top (Some k.an) l) (sym (append-nil (drops h (received h)))) ∙ drops-one h top k.an (received h) [] k (transmitting-last h k is).1 refl))

-- a retirement tells nothing
pub retire-calls : (h : List Keying) (top : ℕ) (o : Option AssociationNumber) (rest : List Change) → calls top o ((retiring h).changes ++ rest) ≡ calls top o rest
retire-calls h top o rest = go (retired h)
  where
    go : (q : Option Key) → calls top o (option_to_list (option_map (λ k. Retired (held h k)) q) ++ rest) ≡ calls top o rest
    go None = refl
    go (Some k) = refl
