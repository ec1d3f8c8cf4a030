-- What says why a frame is undecided, and one entry more.
use Rattle.std.proofs.Common.{◌≡◌, ◌∙◌, ◌≤◌, ℕ, zero, suc, Bool, true, false, cond, not, List, [], ◌∷◌, length, Option, Some, None, refl, sym, ap, subst, arith}
use Rattle.std.specs.Prelude.{◌==◌, ◌&&◌, ◌||◌}
use Rattle.std.specs.Option.{option_or}
use Rattle.std.specs.BTreeMap.{is_at}
use Rattle.std.proofs.lemmas.Bool.{and_parts, and_from, ne_eqb}
use Rattle.std.specs.List.{cons_option}
use Rattle.lan_base.specs.declared.address.Sci.{Sci}
use Rattle.lan_base.specs.declared.association_number.AssociationNumber.{AssociationNumber}
use Rattle.lan_base.specs.declared.association_number.AssociationNumber.TheVariants.{An0, An1, An2, An3}
use Rattle.lan_base.specs.declared.key_id.KeyId.{KeyId}
use Rattle.lan_base.specs.AssociationNumbers.{same_an}
use Rattle.lan_base.specs.Identifiers.{same_sci}
use Rattle.aes_block.specs.declared.secret.Secret.{Secret}
use Rattle.mkpdu_codec.specs.declared.offset.ConfidentialityOffset.{ConfidentialityOffset}
use Rattle.lan_base.specs.Instants.{is_recent}
use Rattle.known_keys.specs.declared.giving.Giving.TheVariants.{Key, Without}
use Rattle.known_keys.specs.declared.giving.NoSak.{NoSak}
use Rattle.known_keys.specs.declared.giving.NoSak.TheVariants.{OtherSuite, WrongWrap}
use Rattle.known_keys.specs.declared.reason.Reason.{Reason}
use Rattle.known_keys.specs.declared.sender.Sender.{Sender}
use Rattle.known_keys.specs.History.{Entry, Set, Gave, Showed, Strange}
use Rattle.known_keys.specs.Numbered.{greatest_first}
use Rattle.known_keys.specs.Standing.{IsMissed}
use Rattle.known_keys.specs.Undecided.{GroupId, first_of, first_offset, group_id, is_for, is_missing, named, names, same_group_id, same_no_sak, was_strange, was_without}
use Rattle.known_keys.specs.Maps.{IsCoveredBy, Missed, NamedTimes, Offsets, group_id_cmp, has, offset_at, sci_cmp, times_under}
use Rattle.known_keys.specs.inside.Missing.{AddsIf, IsNamedUnder, IsOffered, IsShown, IsStranger, IsWithheld, NamesIf, is_lacking, is_one_lacking, without_of}
use Rattle.known_keys.proofs.FirstTold.{or-none}
use Rattle.known_keys.proofs.Missing.{any-of-covered, any-same, covered-more, covers-more, recent-later}
use Rattle.known_keys.proofs.SaidMore.{cond-or}
use Rattle.known_keys.proofs.Ties.{sci-ties, ties}

-- ---- what is named

abbrev Covers : List (GroupId × ℕ) → List (GroupId × ℕ) → Type 0
Covers xs ys = IsCoveredBy xs ys × IsCoveredBy ys xs

names-if : (b : Bool) (it : GroupId) (nanos : ℕ) (before old new : List (GroupId × ℕ)) → NamesIf b it nanos old new
    → Covers before old → Covers (cons_option (cond b (Some (it, nanos)) None) before) new
names-if true it nanos before old new more was = (
  covers-more it nanos before old new more was.0,
  covered-more it nanos before old new more was.1,
)
names-if false it nanos before old new same was =
    subst (λ (ys : List (GroupId × ℕ)). Covers before ys) (sym same) was

named-more : (history : List Entry) (entry : Entry) (its_an : AssociationNumber) (it : GroupId) (nanos : ℕ)
    (old new : NamedTimes)
    → ((an : AssociationNumber) → names an entry ≡ cond (same_an its_an an) (Some (it, nanos)) None)
    → IsNamedUnder its_an it nanos old new
    → ((an : AssociationNumber) → Covers (named history an) (times_under old an))
    → (an : AssociationNumber) → Covers (named (entry ∷ history) an) (times_under new an)
named-more history entry its_an it nanos old new tells put were an =
    subst (λ (o : Option (GroupId × ℕ)). Covers (cons_option o (named history an)) (times_under new an)) (sym (tells an))
    (names-if (same_an its_an an) it nanos (named history an) (times_under old an) (times_under new an) (at an) (were an))
  where
    at : (a : AssociationNumber) → NamesIf (same_an its_an a) it nanos (times_under old a) (times_under new a)
    at An0 = put.an0
    at An1 = put.an1
    at An2 = put.an2
    at An3 = put.an3

both-ways : (history : List Entry) (missed : Missed) → IsMissed history missed → (an : AssociationNumber)
    → Covers (named history an) (times_under missed.named an)
both-ways history missed are an = (are.every_named an, are.only_named an)

-- ---- nothing

-- ---- a key that is set by hand

pub missed-set : (history : List Entry) (sender : Sender) (an : AssociationNumber) (sak : Secret) (missed : Missed)
    → IsMissed history missed → IsMissed (Set sender an sak ∷ history) missed
missed-set history sender an sak missed are = record {
  offsets = λ it. are.offsets it ∙ sym (or-none (first_offset history it));
  suites = are.suites;
  wraps = are.wraps;
  every_named = are.every_named;
  only_named = are.only_named;
  strange = are.strange;
}

-- ---- a packet of an unknown key name

pub missed-strange : (history : List Entry) (sci : Sci) (old new : Missed) → IsStranger sci old new
    → IsMissed history old → IsMissed (Strange sci ∷ history) new
missed-strange history sci old new put are = record {
  offsets = λ it. ap (λ (os : Offsets). offset_at os it) put.offsets ∙ are.offsets it ∙ sym (or-none (first_offset history it));
  suites = λ it. ap (λ (ks : List GroupId). has group_id_cmp ks it) put.suites ∙ are.suites it;
  wraps = λ it. ap (λ (ks : List GroupId). has group_id_cmp ks it) put.wraps ∙ are.wraps it;
  every_named = λ an. subst (λ (t : NamedTimes). IsCoveredBy (named history an) (times_under t an)) (sym put.named) (are.every_named an);
  only_named = λ an. subst (λ (t : NamedTimes). IsCoveredBy (times_under t an) (named history an)) (sym put.named) (are.only_named an);
  strange = λ q.
      put.strange q
      ∙ ap (λ b. cond b true (has sci_cmp old.strange q)) (sci-ties sci q)
      ∙ ap (λ b. cond (same_sci sci q) true b) (are.strange q)
      ∙ cond-or (same_sci sci q) (was_strange history q);
}

-- ---- a key that is shown

pub missed-showed : (history : List Entry) (packet nanos group : ℕ) (id : KeyId) (an : AssociationNumber)
    (old new : Missed) → IsShown an (group_id group id) nanos old new
    → IsMissed history old → IsMissed (Showed packet nanos group id an ∷ history) new
missed-showed history packet nanos group id an old new put are =
    let more = named-more history (Showed packet nanos group id an) an (group_id group id) nanos old.named new.named
    (λ a. refl) put.named (both-ways history old are) in
    record {
      offsets = λ it. ap (λ (os : Offsets). offset_at os it) put.offsets ∙ are.offsets it ∙ sym (or-none (first_offset history it));
      suites = λ it. ap (λ (ks : List GroupId). has group_id_cmp ks it) put.suites ∙ are.suites it;
      wraps = λ it. ap (λ (ks : List GroupId). has group_id_cmp ks it) put.wraps ∙ are.wraps it;
      every_named = λ a. (more a).0;
      only_named = λ a. (more a).1;
      strange = λ q. ap (λ (ks : List Sci). has sci_cmp ks q) put.strange ∙ are.strange q;
    }

-- ---- a SAK that is given

pub missed-offered : (history : List Entry) (packet nanos group : ℕ) (id : KeyId) (an : AssociationNumber)
    (offset : ConfidentialityOffset) (sak : Secret) (old new : Missed)
    → IsOffered an (group_id group id) nanos offset old new
    → IsMissed history old → IsMissed (Gave packet nanos group id an (Key offset sak) ∷ history) new
missed-offered history packet nanos group id an offset sak old new put are =
    let it = group_id group id in
    let more = named-more history (Gave packet nanos group id an (Key offset sak)) an it nanos old.named new.named
    (λ a. refl) put.named (both-ways history old are) in
    record {
      offsets = λ q.
          put.offsets q
          ∙ ap (λ (o : Option ConfidentialityOffset). option_or o (cond (is_at (group_id_cmp it) q) (Some offset) None)) (are.offsets q)
          ∙ ap (λ b. option_or (first_offset history q) (cond b (Some offset) None)) (ties it q);
      suites = λ q. ap (λ (ks : List GroupId). has group_id_cmp ks q) put.suites ∙ are.suites q;
      wraps = λ q. ap (λ (ks : List GroupId). has group_id_cmp ks q) put.wraps ∙ are.wraps q;
      every_named = λ a. (more a).0;
      only_named = λ a. (more a).1;
      strange = λ q. ap (λ (ks : List Sci). has sci_cmp ks q) put.strange ∙ are.strange q;
    }

-- ---- a key that is given without a SAK

added-if : (b : Bool) (it : GroupId) (old new : List GroupId) (was : Bool) (q : GroupId) → AddsIf b it old new
    → has group_id_cmp old q ≡ was → has group_id_cmp new q ≡ ((b && same_group_id it q) || was)
added-if true it old new was q adds is =
    adds q
    ∙ ap (λ b. cond b true (has group_id_cmp old q)) (ties it q)
    ∙ ap (λ b. cond (same_group_id it q) true b) is
    ∙ cond-or (same_group_id it q) was
added-if false it old new was q same is = ap (λ (ks : List GroupId). has group_id_cmp ks q) same ∙ is

pub missed-withheld : (history : List Entry) (packet nanos group : ℕ) (id : KeyId) (an : AssociationNumber)
    (why : NoSak) (old new : Missed) (is_first : Bool)
    → IsWithheld an (group_id group id) nanos why old new is_first
    → IsMissed history old → IsMissed (Gave packet nanos group id an (Without why) ∷ history) new
missed-withheld history packet nanos group id an why old new is_first put are =
    let it = group_id group id in
    let more = named-more history (Gave packet nanos group id an (Without why)) an it nanos old.named new.named
    (λ a. refl) put.named (both-ways history old are) in
    record {
      offsets = λ q. ap (λ (os : Offsets). offset_at os q) put.offsets ∙ are.offsets q ∙ sym (or-none (first_offset history q));
      suites = λ q. added-if (same_no_sak why OtherSuite) it old.suites new.suites (was_without history OtherSuite q) q
          put.suites (are.suites q);
      wraps = λ q. added-if (same_no_sak why WrongWrap) it old.wraps new.wraps (was_without history WrongWrap q) q
          put.wraps (are.wraps q);
      every_named = λ a. (more a).0;
      only_named = λ a. (more a).1;
      strange = λ q. ap (λ (ks : List Sci). has sci_cmp ks q) put.strange ∙ are.strange q;
    }

pub is-first : (history : List Entry) (it : GroupId) (why : NoSak) (missed : Missed) (b : Bool)
    → IsMissed history missed → b ≡ not (has group_id_cmp (without_of missed why) it)
    → b ≡ not (was_without history why it)
is-first history it OtherSuite missed b are is = is ∙ ap not (are.suites it)
is-first history it WrongWrap missed b are is = is ∙ ap not (are.wraps it)

-- ---- what is asked

pub lacking-told : (history : List Entry) (missed : Missed) (an : AssociationNumber) (now : ℕ) (reason : Reason)
    → IsMissed history missed → is_one_lacking missed an now reason ≡ is_missing history an now reason
lacking-told history missed an now reason are =
    any-same by_kept by_history same (times_under missed.named an)
    ∙ any-of-covered by_history later (times_under missed.named an) (named history an) (are.only_named an) (are.every_named an)
  where
    lacks : GroupId → Bool
    lacks it = is_for reason (first_offset history it) (was_without history OtherSuite it)

    by_kept : GroupId × ℕ → Bool
    by_kept x = is_recent x.1 now && is_lacking reason missed x.0

    by_history : GroupId × ℕ → Bool
    by_history x = is_recent x.1 now && is_for reason (first_offset history x.0) (was_without history OtherSuite x.0)

    same : (x : GroupId × ℕ) → by_kept x ≡ by_history x
    same x =
        ap (λ (o : Option ConfidentialityOffset). is_recent x.1 now && is_for reason o (has group_id_cmp missed.suites x.0))
        (are.offsets x.0)
        ∙ ap (λ b. is_recent x.1 now && is_for reason (first_offset history x.0) b) (are.suites x.0)

    later : (x y : GroupId × ℕ) → y.0 ≡ x.0 → x.1 ≤ y.1 → by_history x ≡ true → by_history y ≡ true
    later x y one less passes =
        let parts = and_parts (is_recent x.1 now) (lacks x.0) passes in
        and_from (is_recent y.1 now) (lacks y.0) (recent-later x.1 y.1 now less parts.0)
        (ap (λ (it : GroupId). lacks it) one ∙ parts.1)

pub first-same : (a b c d e p q r s t : Bool) → a ≡ p → b ≡ q → c ≡ r → d ≡ s → e ≡ t
    → first_of a b c d e ≡ first_of p q r s t
first-same a b c d e p q r s t one two three four five =
    ap (λ (x : Bool). first_of x b c d e) one
    ∙ ap (λ (x : Bool). first_of p x c d e) two
    ∙ ap (λ (x : Bool). first_of p q x d e) three
    ∙ ap (λ (x : Bool). first_of p q r x e) four
    ∙ ap (λ (x : Bool). first_of p q r s x) five

-- ---- numbers of which none passes either test

some-number : (n : ℕ) (ns : List ℕ) → (length (n ∷ ns) == 0) ≡ false
some-number n ns = ne_eqb (length (n ∷ ns)) 0 (λ e. omega (arith, e))

and-false : (b : Bool) → (b && false) ≡ false
and-false true = refl
and-false false = refl

pub none-of-both : (p q : ℕ → Bool) (k : ℕ)
    → ((length (greatest_first p k) == 0) && (length (greatest_first q k) == 0))
    ≡ (length (greatest_first (λ n. p n || q n) k) == 0)
none-of-both p q zero = refl
none-of-both p q (suc k) = go (p (suc k)) (q (suc k)) (none-of-both p q k)
  where
    ps : List ℕ
    ps = greatest_first p k

    qs : List ℕ
    qs = greatest_first q k

    both : List ℕ
    both = greatest_first (λ n. p n || q n) k

    go : (a b : Bool) → ((length ps == 0) && (length qs == 0)) ≡ (length both == 0)
        → ((length (cond a (suc k ∷ ps) ps) == 0) && (length (cond b (suc k ∷ qs) qs) == 0))
        ≡ (length (cond (a || b) (suc k ∷ both) both) == 0)
    go true b before =
        ap (λ c. c && (length (cond b (suc k ∷ qs) qs) == 0)) (some-number (suc k) ps)
        ∙ sym (some-number (suc k) both)
    go false true before =
        ap (λ c. (length ps == 0) && c) (some-number (suc k) qs)
        ∙ and-false (length ps == 0) ∙ sym (some-number (suc k) both)
    go false false before = before
