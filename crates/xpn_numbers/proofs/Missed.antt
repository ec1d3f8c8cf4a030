-- The true number of a frame is tried behind a right one.
use Rattle.std.proofs.Common.{◌≡◌, ◌∙◌, ◌⊎◌, inl, inr, ℕ, zero, suc, ◌+◌, ◌*◌, ◌/◌, ◌%◌, ◌<◌, ◌≤◌, Bool, true, false, cond, List, [], ◌∷◌, ◌++◌, map, filter, Option, Some, None, refl, sym, ap, subst, arith}
use Rattle.std.specs.Prelude.{◌==◌, ◌||◌, nat_lt, not}
use Rattle.std.specs.List.{flat_map, list_any}
use Rattle.std.proofs.lemmas.Bool.{cases_eq, eqb-true, eq-eqb, lt-ltb}
use Rattle.xpn_numbers.specs.declared.candidate.Candidate.{Candidate}
use Rattle.xpn_numbers.specs.declared.candidate.Tried.{Tried}
use Rattle.xpn_numbers.specs.declared.form.Beginning.{Beginning}
use Rattle.xpn_numbers.specs.declared.form.Form.{Form}
use Rattle.xpn_numbers.specs.declared.form.Salted.{Salted}
use Rattle.xpn_numbers.specs.declared.place.Places.{Places}
use Rattle.xpn_numbers.specs.History.{Entry, places}
use Rattle.xpn_numbers.specs.Candidates.{above, and_above, beginnings, below, candidates, candidates_by, from_first, from_last, highs, in_turn, is_last, plain_of, salted_by, salted_of, shown, sscis_of, ssci_candidates, with_all, with_new, xpn_candidate}
use Rattle.xpn_numbers.specs.Missed.{HasSsci, IsBehind, IsIn, numbered}

module _ {X : Type 0} where
  in-left : (xs ys : List X) (x : X) → IsIn xs x → IsIn (xs ++ ys) x
  in-left [] ys x i = elim i [ ]
  in-left (y ∷ xs) ys x (inl e) = inl e
  in-left (y ∷ xs) ys x (inr i) = inr (in-left xs ys x i)

  in-right : (xs ys : List X) (x : X) → IsIn ys x → IsIn (xs ++ ys) x
  in-right [] ys x i = i
  in-right (y ∷ xs) ys x i = inr (in-right xs ys x i)

  in-filter : (p : X → Bool) (xs : List X) (x : X) → p x ≡ true → IsIn xs x → IsIn (filter p xs) x
  in-filter p [] x passes i = elim i [ ]
  in-filter p (y ∷ xs) x passes (inl e) =
      subst (λ (b : Bool). IsIn (cond b (y ∷ filter p xs) (filter p xs)) x) (sym passes ∙ ap p e) (inl e)
  in-filter p (y ∷ xs) x passes (inr i) = go (p y) (in-filter p xs x passes i) where
    go : (b : Bool) → IsIn (filter p xs) x → IsIn (cond b (y ∷ filter p xs) (filter p xs)) x
    go true later = inr later
    go false later = later

in-map : {X A : Type 0} (f : X → A) (xs : List X) (x : X) → IsIn xs x → IsIn (map f xs) (f x)
in-map f [] x i = elim i [ ]
in-map f (y ∷ xs) x (inl e) = inl (ap f e)
in-map f (y ∷ xs) x (inr i) = inr (in-map f xs x i)

in-flat : {X A : Type 0} (f : X → List A) (xs : List X) (x : X) (a : A) → IsIn xs x → IsIn (f x) a → IsIn (flat_map f xs) a
in-flat f [] x a j i = elim j [ ]
in-flat f (y ∷ xs) x a (inl e) i = in-left (f y) (flat_map f xs) a (subst (λ z. IsIn (f z) a) e i)
in-flat f (y ∷ xs) x a (inr j) i = in-right (f y) (flat_map f xs) a (in-flat f xs x a j i)

-- ---- high halves

any-in : (high : ℕ) (highs : List ℕ) → list_any (λ h. h == high) highs ≡ true → IsIn highs high
any-in high [] e = absurd (cc e)
any-in high (h ∷ hs) e = go (h == high) refl (any-in high hs) e where
  go : (b : Bool) → (h == high) ≡ b → (list_any (λ k. k == high) hs ≡ true → IsIn hs high) → (b || list_any (λ k. k == high) hs) ≡ true → (high ≡ h) ⊎ IsIn hs high
  go true is later d = inl (sym (eqb-true h high is))
  go false is later d = inr (later d)

new-keeps : (highs : List ℕ) (high x : ℕ) → IsIn highs x → IsIn (with_new highs high) x
new-keeps highs high x i = go (list_any (λ h. h == high) highs) where
  go : (b : Bool) → IsIn (cond b highs (highs ++ high ∷ [])) x
  go true = i
  go false = in-left highs (high ∷ []) x i

new-has : (highs : List ℕ) (high : ℕ) → IsIn (with_new highs high) high
new-has highs high = go (list_any (λ h. h == high) highs) refl where
  go : (b : Bool) → list_any (λ h. h == high) highs ≡ b → IsIn (cond b highs (highs ++ high ∷ [])) high
  go true e = any-in high highs e
  go false e = in-right highs (high ∷ []) high (inl refl)

all-keeps : (more highs : List ℕ) (x : ℕ) → IsIn highs x → IsIn (with_all highs more) x
all-keeps [] highs x i = i
all-keeps (h ∷ more) highs x i = all-keeps more (with_new highs h) x (new-keeps highs h x i)

all-has : (more highs : List ℕ) (x : ℕ) → IsIn more x → IsIn (with_all highs more) x
all-has [] highs x i = elim i [ ]
all-has (h ∷ more) highs x (inl e) = subst (IsIn (with_all (with_new highs h) more)) (sym e) (all-keeps more (with_new highs h) h (new-has highs h))
all-has (h ∷ more) highs x (inr i) = all-has more (with_new highs h) x i

-- the high half of a number that is behind another by fewer than 2 ^ 32
next-high : (m n high : ℕ) → m / 4294967296 ≡ high → m ≤ n → n < m + 4294967296 → (n / 4294967296 ≡ high) ⊎ (n / 4294967296 ≡ high + 1)
next-high m n high e le lt =
    elim (cases_eq (n / 4294967296) high) [
      | inl is ↦ inl is
      | inr other ↦ inr (omega (arith, e, le, lt, other))
    ]

high-fits : (n : ℕ) → n < 18446744073709551616 → n / 4294967296 < 4294967296
high-fits n lt = omega arith

in-last : (high x : ℕ) → (x ≡ high) ⊎ (x ≡ high + 1) → x < 4294967296 → IsIn (and_above high) x
in-last high x (inl e) lt = inl e
in-last high x (inr e) lt =
    inr (subst (λ (b : Bool). IsIn (cond b ((high + 1) ∷ []) []) x) (sym (lt-ltb (high + 1) 4294967296 (omega (arith, e, lt)))) (inl e))

-- ---- the list

tried-high : (tried : Tried) (places : Places) (set : List Beginning) (shown : List ℕ) (salt : List ℕ) (number : ℕ) → IsBehind tried places.last number
    → IsIn (highs (Some places) set shown salt places.last.ssci) (number / 4294967296)
tried-high tried places set shown salt number b =
    let behind : List ℕ = 0 ∷ (from_first (Some places) ++ (flat_map and_above (beginnings set salt places.last.ssci) ++ flat_map and_above shown)) in
    all-has (from_last (Some places) ++ behind) [] (number / 4294967296)
    (in-left (from_last (Some places)) behind (number / 4294967296)
    (in-left (and_above places.last.high) (below places.last.high) (number / 4294967296)
    (in-last places.last.high (number / 4294967296) (next-high b.before number places.last.high b.high b.after b.few) (high-fits number b.fits))))

same-number : (tried : Tried) (clear : ℕ) (salt : List ℕ) (ssci number : ℕ) → number % 4294967296 ≡ tried.pn
    → xpn_candidate tried clear salt ssci (number / 4294967296) ≡ numbered tried clear salt ssci number
same-number tried clear salt ssci number e =
    let whole : number / 4294967296 * 4294967296 + tried.pn ≡ number = omega (arith, e) in
    ap (λ (n : ℕ). numbered tried clear salt ssci n) whole

in-salted : (tried : Tried) (places : Places) (set : List Beginning) (shown : List ℕ) (form : Form) (salt : List ℕ) (number : ℕ) → HasSsci form salt places.last.ssci → IsBehind tried places.last number
    → IsIn (salted_of tried (Some places) set shown form) (numbered tried form.clear salt places.last.ssci number)
in-salted tried places set shown form salt number h b =
    subst (λ (o : Option Salted). IsIn (salted_by tried (Some places) set shown form.clear o) (numbered tried form.clear salt places.last.ssci number)) (sym h.is)
    (subst (λ (s : List ℕ). IsIn (flat_map (ssci_candidates tried (Some places) set shown form.clear s) (in_turn (Some places) (sscis_of h.salted.sscis))) (numbered tried form.clear salt places.last.ssci number)) (sym h.with_salt)
    (in-flat (ssci_candidates tried (Some places) set shown form.clear salt) (in_turn (Some places) (sscis_of h.salted.sscis)) places.last.ssci (numbered tried form.clear salt places.last.ssci number)
    (in-left (filter (is_last (Some places)) (sscis_of h.salted.sscis)) (filter (λ s. not (is_last (Some places) s)) (sscis_of h.salted.sscis)) places.last.ssci
    (in-filter (is_last (Some places)) (sscis_of h.salted.sscis) places.last.ssci (eq-eqb places.last.ssci places.last.ssci refl) h.has))
    (subst (IsIn (ssci_candidates tried (Some places) set shown form.clear salt places.last.ssci)) (same-number tried form.clear salt places.last.ssci number b.low)
    (in-map (xpn_candidate tried form.clear salt places.last.ssci) (highs (Some places) set shown salt places.last.ssci) (number / 4294967296) (tried-high tried places set shown salt number b)))))

pub few_missed : (history : List Entry) (tried : Tried) (forms : List Form) (set : List Beginning) (last : Places) (form : Form) (salt : List ℕ) (number : ℕ)
    → places tried.key tried.sci history ≡ Some last → IsIn forms form → HasSsci form salt last.last.ssci → IsBehind tried last.last number
    → IsIn (candidates history tried forms set) (numbered tried form.clear salt last.last.ssci number)
few_missed history tried forms set last form salt number e i h b =
    subst (λ (o : Option Places). IsIn (candidates_by tried o (shown history tried.key tried.nanos) forms set) (numbered tried form.clear salt last.last.ssci number)) (sym e)
    (in-right (flat_map (plain_of tried) forms) (flat_map (salted_of tried (Some last) set (shown history tried.key tried.nanos)) forms) (numbered tried form.clear salt last.last.ssci number)
    (in-flat (salted_of tried (Some last) set (shown history tried.key tried.nanos)) forms form (numbered tried form.clear salt last.last.ssci number) i
    (in-salted tried last set (shown history tried.key tried.nanos) form salt number h b)))
