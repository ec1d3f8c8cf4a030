-- What is counted of all members.
use Rattle.std.proofs.Common.{◌≡◌, ◌∙◌, ◌+◌, ◌<◌, ℕ, Bool, true, false, cond, List, [], ◌∷◌, length, map, min, refl, sym, ap, subst, arith}
use Rattle.std.specs.Prelude.{◌&&◌, ◌||◌, fold, get_or, sum_by, take}
use Rattle.std.specs.List.{list_any}
use Rattle.std.specs.BTreeMap.{is_at}
use Rattle.std.specs.Set.{is_member}
use Rattle.std.proofs.lemmas.List.{map-append, take_more}
use Rattle.std.proofs.lemmas.List.Folds.{list_any-append}
use Rattle.std.specs.Cmp.{IsEquivalence, eq_by_cmp_equiv, nat_cmp_total, and_equiv, on_equiv}
use Rattle.std.specs.Cmp.Lexicographic.{nat_list_cmp_total, slice_cmp}
use Rattle.std.specs.Ordering.{eq_by_cmp, is_eq, nat_cmp, ordering_then}
use Rattle.std.specs.declared.cmp.Ordering.{Ordering}
use Rattle.std.specs.declared.cmp.Ordering.TheVariants.{Less, Equal, Greater}
use Rattle.lan_base.specs.declared.address.Sci.{Sci}
use Rattle.member_notes.specs.declared.facts.Member.{Member}
use Rattle.member_notes.specs.Facts.{station_cmp, station_of}

abbrev most : ℕ
most = 18446744073709551615

capped-more : (a n : ℕ) → min (min a most + n) most ≡ min (a + n) most
capped-more a n = omega arith

capped-from : (f : Member → ℕ) (ms : List Member) (a : ℕ) → fold (λ (n : ℕ) (m : Member). min (n + f m) most) (min a most) ms
    ≡ min (fold (λ (n : ℕ) (m : Member). n + f m) a ms) most
capped-from f [] a = refl
capped-from f (m ∷ ms) a =
    ap (λ b. fold (λ (n : ℕ) (m : Member). min (n + f m) most) b ms) (capped-more a (f m))
    ∙ capped-from f ms (a + f m)

pub capped : (f : Member → ℕ) (ms : List Member) → fold (λ (n : ℕ) (m : Member). min (n + f m) most) 0 ms
    ≡ min (sum_by f ms) most
capped f ms = capped-from f ms 0

-- ---- groups with SCIs

both-tie : (o p : Ordering) → (is_eq o && is_eq p) ≡ is_eq (ordering_then o p)
both-tie Less p = refl
both-tie Equal p = refl
both-tie Greater p = refl

pub stations : IsEquivalence (eq_by_cmp station_cmp)
stations =
    subst (λ (E : ℕ × Sci → ℕ × Sci → Bool). IsEquivalence E)
    (λ t a b. both-tie (nat_cmp a.0 b.0) (slice_cmp nat_cmp a.1.0 b.1.0) t)
    (and_equiv (on_equiv (λ (a : ℕ × Sci). a.0) (eq_by_cmp_equiv nat_cmp_total))
    (on_equiv (λ (a : ℕ × Sci). a.1.0) (eq_by_cmp_equiv nat_list_cmp_total)))

one-more : (a b : Bool) → cond b true a ≡ (a || (b || false))
one-more true true = refl
one-more true false = refl
one-more false true = refl
one-more false false = refl

pub seen-more : (old new : List (ℕ × Sci)) (ms : List Member) (i : ℕ) (d : Member) → i < length ms
    → ((q : ℕ × Sci) → is_member (eq_by_cmp station_cmp) old q ≡ is_member (eq_by_cmp station_cmp) (map station_of (take i ms)) q)
    → ((q : ℕ × Sci) → list_any (is_at (station_cmp q)) new
    ≡ cond (is_at (station_cmp (station_of (get_or ms i d))) q) true (list_any (is_at (station_cmp q)) old))
    → (q : ℕ × Sci) → is_member (eq_by_cmp station_cmp) new q ≡ is_member (eq_by_cmp station_cmp) (map station_of (take (i + 1) ms)) q
seen-more old new ms i d within were puts q =
    let m = get_or ms i d in
    let before = map station_of (take i ms) in
    puts q ∙ ap (λ b. cond b true (list_any (is_at (station_cmp q)) old)) (stations.symm (station_of m) q)
    ∙ ap (λ a. cond (is_at (station_cmp q) (station_of m)) true a) (were q)
    ∙ one-more (is_member (eq_by_cmp station_cmp) before q) (is_at (station_cmp q) (station_of m))
    ∙ sym (list_any-append (is_at (station_cmp q)) before (station_of m ∷ []))
    ∙ ap (λ (ns : List (ℕ × Sci)). is_member (eq_by_cmp station_cmp) ns q)
    (sym (ap (λ (ns : List Member). map station_of ns) (take_more ms i d within) ∙ map-append station_of (take i ms) (m ∷ [])))
