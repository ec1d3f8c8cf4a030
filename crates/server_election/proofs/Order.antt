-- The order of the peers doesn't matter where equal pairs are of one identifier.
use Rattle.std.proofs.Common.{◌≡◌, false, List, [], ◌∷◌, Option, None, Some, refl, sym, ap, ◌∙◌, inl, inr, arith, length}
use Rattle.std.specs.declared.cmp.Ordering.{Ordering}
use Rattle.std.specs.declared.cmp.Ordering.TheVariants.{Less, Equal, Greater}
use Rattle.std.specs.Ordering.{is_lt, ordering_reverse}
use Rattle.std.specs.List.{Contains}
use Rattle.std.specs.List.Sorted.{IsPermutation}
use Rattle.std.proofs.lemmas.List.Elements.{All-contains}
use Rattle.std.proofs.lemmas.List.Sorted.{IsPermutation-sym, IsPermutation-cons, All-permutation, Contains-permutation, length_permutation}
use Rattle.lan_base.specs.declared.address.Mi.{Mi}
use Rattle.server_election.specs.declared.candidate.Candidate.{Candidate}
use Rattle.server_election.specs.Election.{elected, eligible, pair_cmp, precedes, IsLeast}
use Rattle.server_election.proofs.Pairs.{pair_cmp-total}
use Rattle.server_election.proofs.Eligible.{Contains-passed, passes-passed, Contains-kept}
use Rattle.server_election.proofs.Elected.{IsLeast-elected, IsNobody, IsNobody-elected, elected-IsNobody}

tied : (o p : Ordering) → o ≡ ordering_reverse p → is_lt o ≡ false → is_lt p ≡ false → o ≡ Equal
tied o Less back not_o not_p = cc
tied o Equal back not_o not_p = back
tied o Greater back not_o not_p = cc

-- who is eligible stays so in another order
Contains-eligible : (own x : Candidate) (live others : List Candidate) → IsPermutation live others → Contains (eligible own live) x → Contains (eligible own others) x
Contains-eligible own x live others moved is =
    Contains-kept (own ∷ others) x (Contains-permutation (own ∷ live) (own ∷ others) x (IsPermutation-cons own live others moved) (Contains-passed (own ∷ live) x is)) (passes-passed (own ∷ live) x is)

pair_cmp-least : (own x y : Candidate) (live others : List Candidate) → IsPermutation live others → IsLeast x (eligible own live) → IsLeast y (eligible own others) → pair_cmp x y ≡ Equal
pair_cmp-least own x y live others moved xs ys =
    let back = IsPermutation-sym live others moved in
    tied (pair_cmp x y) (pair_cmp y x) (pair_cmp-total.antisymm x y)
    (All-contains (λ z. precedes z y ≡ false) (eligible own others) x ys.least (Contains-eligible own x live others moved xs.one_of_them))
    (All-contains (λ z. precedes z x ≡ false) (eligible own live) y xs.least (Contains-eligible own y others live back ys.one_of_them))

IsNobody-moved : (own : Candidate) (live others : List Candidate) → IsPermutation live others → IsNobody own live → IsNobody own others
IsNobody-moved own live [] moved is = inl refl
IsNobody-moved own live (y ∷ ys) moved (inl none) =
    let longer = length_permutation live (y ∷ ys) moved in
    let empty : length live ≡ 0 = ap length none in
    absurd (omega arith)
IsNobody-moved own live (y ∷ ys) moved (inr all) =
    inr (All-permutation (λ x. x.priority ≡ 255) (own ∷ live) (own ∷ y ∷ ys) (IsPermutation-cons own live (y ∷ ys) moved) all)

-- equal pairs are of one identifier
abbrev NoTies : Candidate → List Candidate → Type 0
NoTies own live =
    (x y : Candidate) → Contains (own ∷ live) x → Contains (own ∷ live) y → pair_cmp x y ≡ Equal → x.mi ≡ y.mi

same_server : (own : Candidate) (live others : List Candidate) → NoTies own live → IsPermutation live others → (one other : Option Mi) → elected own live ≡ one → elected own others ≡ other → one ≡ other
same_server own live others no_ties moved None other here there =
    sym (elected-IsNobody own others (IsNobody-moved own live others moved (IsNobody-elected own live here))) ∙ there
same_server own live others no_ties moved (Some mi) None here there =
    let back = IsPermutation-sym live others moved in
    sym here ∙ elected-IsNobody own live (IsNobody-moved own others live back (IsNobody-elected own others there))
same_server own live others no_ties moved (Some mi) (Some other) here there =
    let back = IsPermutation-sym live others moved in
    let x = IsLeast-elected own live mi here in
    let y = IsLeast-elected own others other there in
    let y_here = Contains-eligible own y.0 others live back y.1.one_of_them in
    let same = no_ties x.0 y.0 (Contains-passed (own ∷ live) x.0 x.1.one_of_them) (Contains-passed (own ∷ live) y.0 y_here) (pair_cmp-least own x.0 y.0 live others moved x.1 y.1) in
    ap Some (sym x.2 ∙ same ∙ y.2)

pub elected-permutation : (own : Candidate) (live others : List Candidate) → NoTies own live → IsPermutation live others → elected own live ≡ elected own others
elected-permutation own live others no_ties moved =
    same_server own live others no_ties moved (elected own live) (elected own others) refl refl
