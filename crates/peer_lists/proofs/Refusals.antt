-- The reason to drop an announcement can be told from the rows of the table.
use Rattle.std.proofs.Common.{◌≡◌, ℕ, true, false, cond, not, List, [], ◌∷◌, Option, Some, None, is_some, map, length, refl, ap, sym, ◌∙◌, nat_le}
use Rattle.std.proofs.lemmas.List.{length-map}
use Rattle.std.specs.List.{list_any, filter}
use Rattle.std.specs.Option.{option_map, option_and_then, option_or}
use Rattle.lan_base.specs.declared.address.Mi.{Mi}
use Rattle.peer_lists.specs.declared.heard.Heard.{Heard}
use Rattle.peer_lists.specs.declared.heard.PeerRefusal.{PeerRefusal}
use Rattle.peer_lists.specs.declared.heard.PeerRefusal.TheVariants.{OldNumber, PeersFull}
use Rattle.peer_lists.specs.declared.remembered.Remembered.{Remembered}
use Rattle.peer_lists.specs.Acceptance.{most_peers}
use Rattle.lan_base.specs.Identifiers.{same_mi, has}
use Rattle.peer_lists.specs.Histories.{Peering, clock, is_young}
use Rattle.peer_lists.specs.Acceptance.{Own, Accepted, accepted, old_number, peers_full, first_number, young_numbers, is_young_of, members}
use Rattle.lan_base.specs.Falling.{IsFalling}
use Rattle.peer_lists.specs.Peers.{is_of, is_vouched_of, known}
use Rattle.peer_lists.specs.Table.{words_of, remembered, look_up, member}
use Rattle.lan_base.specs.Identifiers.{IsAscending}
use Rattle.peer_lists.proofs.Identifiers.{by_test}
use Rattle.peer_lists.proofs.Ascending.{has-ascending, ascending-is, ascending-same}
use Rattle.peer_lists.proofs.TableRows.{look_up-has, reason_by}
use Rattle.peer_lists.proofs.Finds.{greatest-from}
use Rattle.peer_lists.proofs.Pasts.{by_option, IsUpTo, accepted-upto, accepted-falling, kept-first, kept-some}

-- a number that is kept, as a reason against a number that is not greater
abbrev number_against : ℕ → ℕ → Option PeerRefusal
number_against k n = cond (nat_le k n) (Some (OldNumber n)) None

against-kept : (k : ℕ) (o : Option ℕ) → option_map OldNumber (option_and_then (λ n. cond (nat_le k n) (Some n) None) o) ≡ option_and_then (number_against k) o
against-kept k None = refl
against-kept k (Some n) = by_test (nat_le k n) (λ e. rw e refl) (λ e. rw e refl)

old_number-is : (now t : ℕ) (past : List Accepted) (x : Heard) → IsUpTo t past → IsFalling (young_numbers now x.mi past) → old_number now past x ≡ option_and_then (number_against x.mn) (option_map (λ w. w.told.mn) (words_of now (is_of x.mi) past))
old_number-is now t past x h falls =
    ap (option_map OldNumber) (greatest-from x.mn (young_numbers now x.mi past) falls) ∙ against-kept x.mn (first_number (young_numbers now x.mi past))
    ∙ ap (option_and_then (number_against x.mn)) (sym (kept-first now x.mi past t h))

has-young : (now : ℕ) (k : Mi) (past : List Accepted) → has k (map (λ a. a.told.mi) (filter (λ a. is_young now a.at) past)) ≡ list_any (is_young_of now k) past
has-young now k [] = refl
has-young now k (a ∷ past) =
    by_test (is_young now a.at)
    (λ e. rw e (by_test (same_mi a.told.mi k) (λ f. rw f refl) (λ f. rw f (has-young now k past))))
    (λ e. rw e (by_test (same_mi a.told.mi k) (λ f. rw f (has-young now k past)) (λ f. rw f (has-young now k past))))

pub has-members : (now : ℕ) (k : Mi) (past : List Accepted) → has k (members now past) ≡ list_any (is_young_of now k) past
has-members now k past = has-ascending k (map (λ a. a.told.mi) (filter (λ a. is_young now a.at) past)) ∙ has-young now k past

-- what is kept of a member, as its words and its vouched words
pub remembered-is : (own : Own) (h : List Peering) (m : Mi) → remembered own h m ≡ option_map (λ last. record { last = last; vouched = words_of (clock h) (is_vouched_of m) (accepted own h) }) (words_of (clock h) (is_of m) (accepted own h))
unfolding remembered
remembered-is own h m = refl

some-map : {A B : Type 0} (f : A → B) (o : Option A) → is_some (option_map f o) ≡ is_some o
some-map f None = refl
some-map f (Some a) = refl

pub has-known : (own : Own) (h : List Peering) (m : Mi) → has m (known own h) ≡ is_some (remembered own h m)
unfolding known remembered
has-known own h m =
    has-members (clock h) m (accepted own h) ∙ sym (kept-some (clock h) m (accepted own h) (clock h) (accepted-upto own h))
    ∙ sym (some-map (λ last. record { last = last; vouched = words_of (clock h) (is_vouched_of m) (accepted own h) }) (words_of (clock h) (is_of m) (accepted own h)))

pub known-ascending : (own : Own) (h : List Peering) → IsAscending (known own h)
unfolding known
known-ascending own h = ascending-is (map (λ a. a.told.mi) (filter (λ a. is_young (clock h) a.at) (accepted own h)))

-- the rows are of the members that are known
pub rows-known : (own : Own) (h : List Peering) (ps : List Remembered) → IsAscending (map member ps) → ((m : Mi) → look_up m ps ≡ remembered own h m) → map member ps ≡ known own h
rows-known own h ps up rows =
    ascending-same (map member ps) (known own h) up (known-ascending own h) (λ k. sym (look_up-has k ps) ∙ ap is_some (rows k) ∙ sym (has-known own h k))

pub filter-lacks : (m : Mi) (ms : List Mi) → has m ms ≡ false → filter (λ n. not (same_mi n m)) ms ≡ ms
filter-lacks m [] e = refl
filter-lacks m (n ∷ ns) e =
    by_test (same_mi n m) (λ f. let g = rw f at e in absurd (cc (g))) (λ f. let g = rw f at e in rw f (ap (λ (l : List Mi). n ∷ l) (filter-lacks m ns g)))

full-none : (own : Own) (h : List Peering) (ps : List Remembered) (x : Heard) → map member ps ≡ members (clock h) (accepted own h) → list_any (is_young_of (clock h) x.mi) (accepted own h) ≡ false → peers_full (clock h) (accepted own h) x ≡ cond (nat_le most_peers (length ps)) (Some PeersFull) None
full-none own h ps x same none =
    let lacks : has x.mi (members (clock h) (accepted own h)) ≡ false = has-members (clock h) x.mi (accepted own h) ∙ none in
    let long : length (filter (λ m. not (same_mi m x.mi)) (members (clock h) (accepted own h))) ≡ length ps = ap length (filter-lacks x.mi (members (clock h) (accepted own h)) lacks ∙ sym same) ∙ length-map ps member in
    rw (long, none) (by_test (nat_le most_peers (length ps)) (λ e. rw e refl) (λ e. rw e refl))

full-some : (now : ℕ) (past : List Accepted) (x : Heard) → list_any (is_young_of now x.mi) past ≡ true → peers_full now past x ≡ None
full-some now past x some =
    rw some (by_test (nat_le most_peers (length (filter (λ m. not (same_mi m x.mi)) (members now past)))) (λ e. rw e refl) (λ e. rw e refl))

or-none : {A : Type 0} (o : Option A) → option_or o None ≡ o
or-none None = refl
or-none (Some a) = refl

pub known-is : (own : Own) (h : List Peering) → known own h ≡ members (clock h) (accepted own h)
unfolding known
known-is own h = refl

pub reason-is : (own : Own) (h : List Peering) (ps : List Remembered) (x : Heard) → IsAscending (map member ps) → ((m : Mi) → look_up m ps ≡ remembered own h m) → reason_by ps x (look_up x.mi ps) ≡ option_or (old_number (clock h) (accepted own h) x) (peers_full (clock h) (accepted own h) x)
reason-is own h ps x up rows =
    let number = old_number-is (clock h) (clock h) (accepted own h) x (accepted-upto own h) (accepted-falling own h x.mi) in
    let young = kept-some (clock h) x.mi (accepted own h) (clock h) (accepted-upto own h) in
    let row = rows x.mi ∙ remembered-is own h x.mi in
    by_option (words_of (clock h) (is_of x.mi) (accepted own h))
    (λ e. rw (row, number, e) (sym (full-none own h ps x (rows-known own h ps up rows ∙ known-is own h) (sym young ∙ ap is_some e))))
    (λ w e. rw (row, number, e, full-some (clock h) (accepted own h) x (sym young ∙ ap is_some e)) (sym (or-none (number_against x.mn w.told.mn))))
