-- What an announcement tells a member.
use Rattle.std.proofs.Common.{◌≡◌, ◌∙◌, ◌++◌, ◌<◌, ◌+◌, ℕ, Bool, true, false, cond, List, [], ◌∷◌, map, take, length, get_or, Option, Some, None, is_some, unwrap_or, ap, sym, refl}
use Rattle.std.specs.List.{filter, find}
use Rattle.std.specs.Option.{option_or}
use Rattle.std.proofs.lemmas.List.{map-append, append-nil}
use Rattle.sak_exchange.proofs.Public.{by_test}
use Rattle.mka_station.proofs.Filters.{map-filter_more}
use Rattle.std.proofs.lemmas.List.Elements.{filter-append}
use Rattle.lan_base.specs.declared.address.Mi.{Mi}
use Rattle.lan_base.specs.Identifiers.{same_mi}
use Rattle.mkpdu_codec.specs.declared.announcement.Announcement.{Announcement}
use Rattle.mkpdu_codec.specs.declared.peer.Peer.{Peer}
use Rattle.peer_lists.specs.Acceptance.{first_number}
use Rattle.peer_lists.specs.Histories.{Peering, recent}
use Rattle.peer_lists.specs.Listings.{numbers_of}
use Rattle.mka_station.specs.Lives.{told}

numbers-append : (mi : Mi) (xs ys : List Peer) → numbers_of mi (xs ++ ys) ≡ numbers_of mi xs ++ numbers_of mi ys
numbers-append mi xs ys = ap (map (λ p. p.mn)) (filter-append (λ (p : Peer). same_mi p.mi mi) xs ys) ∙ map-append (λ p. p.mn) (filter (λ p. same_mi p.mi mi) xs) (filter (λ p. same_mi p.mi mi) ys)

-- the first number, and the first that passes a test, of two lists
first-append : (xs ys : List ℕ) → option_or (first_number xs) (first_number ys) ≡ first_number (xs ++ ys)
first-append [] ys = refl
first-append (x ∷ xs) ys = refl

find-append : (q : ℕ → Bool) (xs ys : List ℕ) → option_or (find q xs) (find q ys) ≡ find q (xs ++ ys)
find-append q [] ys = refl
find-append q (x ∷ xs) ys = by_test (q x) (λ e. rw e refl) (λ e. rw e (find-append q xs ys))

or-before : {A : Type 0} (o p r : Option A) → option_or (option_or o p) r ≡ option_or o (option_or p r)
or-before None p r = refl
or-before (Some a) p r = refl

number-more : (mi : Mi) (pairs : List Peer) (i : ℕ) (d : Peer) → i < length pairs → same_mi (get_or pairs i d).mi mi ≡ true
    → numbers_of mi (take (i + 1) pairs) ≡ numbers_of mi (take i pairs) ++ (get_or pairs i d).mn ∷ []
number-more mi pairs i d l is = map-filter_more (λ p. p.mn) (λ p. same_mi p.mi mi) pairs i d l ∙ rw is refl

number-same : (mi : Mi) (pairs : List Peer) (i : ℕ) (d : Peer) → i < length pairs → same_mi (get_or pairs i d).mi mi ≡ false
    → numbers_of mi (take (i + 1) pairs) ≡ numbers_of mi (take i pairs)
number-same mi pairs i d l is = map-filter_more (λ p. p.mn) (λ p. same_mi p.mi mi) pairs i d l ∙ rw is (append-nil (numbers_of mi (take i pairs)))

pub first-named : (before now next : Option ℕ) (mi : Mi) (pairs : List Peer) (i : ℕ) (d : Peer) → i < length pairs → same_mi (get_or pairs i d).mi mi ≡ true
    → now ≡ option_or before (first_number (numbers_of mi (take i pairs))) → next ≡ option_or now (Some (get_or pairs i d).mn) → next ≡ option_or before (first_number (numbers_of mi (take (i + 1) pairs)))
first-named before now next mi pairs i d l is kept new =
    let xs = numbers_of mi (take i pairs) in
    let n = (get_or pairs i d).mn in
    new ∙ ap (λ (o : Option ℕ). option_or o (Some n)) kept ∙ or-before before (first_number xs) (Some n)
    ∙ ap (option_or before) (first-append xs (n ∷ [])) ∙ ap (λ (ys : List ℕ). option_or before (first_number ys)) (sym (number-more mi pairs i d l is))

pub recent-named : (q : ℕ → Bool) (before now next : Option ℕ) (mi : Mi) (pairs : List Peer) (i : ℕ) (d : Peer) → i < length pairs → same_mi (get_or pairs i d).mi mi ≡ true
    → now ≡ option_or before (find q (numbers_of mi (take i pairs))) → next ≡ option_or now (cond (q (get_or pairs i d).mn) (Some (get_or pairs i d).mn) None)
    → next ≡ option_or before (find q (numbers_of mi (take (i + 1) pairs)))
recent-named q before now next mi pairs i d l is kept new =
    let xs = numbers_of mi (take i pairs) in
    let n = (get_or pairs i d).mn in
    new ∙ ap (λ (o : Option ℕ). option_or o (cond (q n) (Some n) None)) kept ∙ or-before before (find q xs) (cond (q n) (Some n) None)
    ∙ ap (option_or before) (find-append q xs (n ∷ [])) ∙ ap (λ (ys : List ℕ). option_or before (find q ys)) (sym (number-more mi pairs i d l is))

pub none-named : {A : Type 0} (f : List ℕ → Option A) (before now : Option A) (mi : Mi) (pairs : List Peer) (i : ℕ) (d : Peer) → i < length pairs → same_mi (get_or pairs i d).mi mi ≡ false
    → now ≡ option_or before (f (numbers_of mi (take i pairs))) → now ≡ option_or before (f (numbers_of mi (take (i + 1) pairs)))
none-named f before now mi pairs i d l is kept = kept ∙ ap (λ (ys : List ℕ). option_or before (f ys)) (sym (number-same mi pairs i d l is))

-- what two lists of pairs come to
pub both-first : (mi : Mi) (a : Announcement) (one both : Option ℕ) → one ≡ first_number (numbers_of mi a.live) → both ≡ option_or one (first_number (numbers_of mi a.potential))
    → both ≡ first_number (numbers_of mi a.live ++ numbers_of mi a.potential)
both-first mi a one both is more = more ∙ ap (λ (o : Option ℕ). option_or o (first_number (numbers_of mi a.potential))) is ∙ first-append (numbers_of mi a.live) (numbers_of mi a.potential)

pub both-recent : (q : ℕ → Bool) (mi : Mi) (a : Announcement) (one both : Option ℕ) → one ≡ find q (numbers_of mi a.live) → both ≡ option_or one (find q (numbers_of mi a.potential))
    → both ≡ find q (numbers_of mi a.live ++ numbers_of mi a.potential)
both-recent q mi a one both is more = more ∙ ap (λ (o : Option ℕ). option_or o (find q (numbers_of mi a.potential))) is ∙ find-append q (numbers_of mi a.live) (numbers_of mi a.potential)

pub told-is : (mi : Mi) (h : List Peering) (a : Announcement) (numbers : List ℕ) (lists : Bool) (listed : ℕ) (young first : Option ℕ)
    → numbers ≡ numbers_of mi a.live ++ numbers_of mi a.potential
    → young ≡ find (recent h) numbers → first ≡ first_number numbers → lists ≡ is_some first → listed ≡ unwrap_or (option_or young first) 0
    → record { mi = a.mi; sci = a.sci; priority = a.priority; mn = a.mn; lists = lists; listed = listed; uses = a.uses } ≡ told mi (recent h) a
told-is mi h a numbers lists listed young first n y f l u =
    let all : numbers ≡ numbers_of mi (a.live ++ a.potential) = n ∙ sym (numbers-append mi a.live a.potential) in
    rw (u, l, y, f, all) refl
