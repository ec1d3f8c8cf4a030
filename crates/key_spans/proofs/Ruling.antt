-- One fact more, and what it does to the reigns of stations.
use Rattle.std.proofs.Common.{◌≡◌, ◌≢◌, ◌∙◌, ◌⊎◌, ◌<◌, ◌≤◌, ℕ, inl, inr, length, Bool, true, false, List, [], ◌∷◌, ◌++◌, Option, Some, None, All, refl, sym, ap, subst, arith, append_assoc}
use Rattle.std.specs.Prelude.{◌==◌, ◌&&◌, if◌then◌else◌, map, is_some, slice_get, set, IsTrue, OnOk, Result}
use Rattle.std.specs.declared.alloc.AllocError.{AllocError}
use Rattle.std.specs.Option.{option_or}
use Rattle.std.proofs.lemmas.List.{append-nil}
use Rattle.std.proofs.lemmas.List.Elements.{All-nil, All-cons, All-append, All-head, All-tail}
use Rattle.lan_base.specs.declared.address.Mi.{Mi}
use Rattle.sak_exchange.proofs.Public.{by_test, by_option}
use Rattle.lan_core.specs.Run.{place}
use Rattle.lan_core.specs.declared.fact.Fact.{Fact}
use Rattle.lan_core.specs.declared.fact.Fact.TheVariants as shows
use Rattle.tick_columns.specs.Columns.{IsLast, IsThinned, Columns, no_columns}
use Rattle.key_spans.specs.declared.clock.Clock.{Clock}
use Rattle.key_spans.specs.declared.reign.Reign.{Reign}
use Rattle.key_spans.specs.Spans.{clock, clock_after, start}
use Rattle.key_spans.specs.Reigns.{begun, crowned, is_begun_by, is_over_by, is_own, member_after, member_from, reigns, reigns_from, ruled, ruled_from}
use Rattle.key_spans.specs.Courts.{AreReignsOf, KeptCourt, KeptReigns, begun_at, court_at, no_court, or_none}
use Rattle.key_spans.specs.inside.Ruling.{AllOver, AreCourtsAfter, AreRuled, FrontOver, HasCourt, IsCourtAfter, IsCrowned, IsOver, IsRuled}
use Rattle.key_spans.proofs.OneMore.{clock-more}
use Rattle.key_spans.proofs.Apart.{most, rises}
use Rattle.key_spans.proofs.Lanes.{unlike}
use Rattle.key_spans.proofs.Rows.{past-none, same-place, set-here, set-others}
use Rattle.key_spans.proofs.Standing.{on_ok}

-- ---- one fact more at the end of facts

module _ (s : ℕ) (f : Fact) where
  pub member-more : (own : Option Mi) (facts : List Fact)
      → member_from s own (facts ++ f ∷ []) ≡ member_after s (member_from s own facts) f
  member-more own [] = refl
  member-more own (x ∷ later) = member-more (member_after s own x) later

  ruled-more : (at : Clock) (facts : List Fact) (x : Reign)
      → ruled_from s at (facts ++ f ∷ []) x ≡ ruled (clock at facts).ticks (is_over_by s f) (ruled_from s at facts x)
  ruled-more at [] x = refl
  ruled-more at (g ∷ later) x = ruled-more (clock_after at g) later (ruled at.ticks (is_over_by s g) x)

  all-ruled : (at : Clock) (facts : List Fact) (xs : List Reign)
      → map (ruled_from s at (facts ++ f ∷ [])) xs
      ≡ map (ruled (clock at facts).ticks (is_over_by s f)) (map (ruled_from s at facts) xs)
  all-ruled at facts [] = refl
  all-ruled at facts (x ∷ xs) =
      ap (λ (y : Reign). y ∷ map (ruled_from s at (facts ++ f ∷ [])) xs) (ruled-more at facts x)
      ∙ ap (λ (ys : List Reign). ruled (clock at facts).ticks (is_over_by s f) (ruled_from s at facts x) ∷ ys)
      (all-ruled at facts xs)

  none-ruled : (at : Clock) (xs : List Reign) → map (ruled_from s at []) xs ≡ xs
  none-ruled at [] = refl
  none-ruled at (x ∷ xs) = ap (λ (ys : List Reign). x ∷ ys) (none-ruled at xs)

  both : (t : Reign → Reign) (xs ys : List Reign) → map t (xs ++ ys) ≡ map t xs ++ map t ys
  both t [] ys = refl
  both t (x ∷ xs) ys = ap (λ (zs : List Reign). t x ∷ zs) (both t xs ys)

  pub reigns-more : (own : Option Mi) (at : Clock) (facts : List Fact)
      → reigns_from s own at (facts ++ f ∷ [])
      ≡ map (ruled (clock at facts).ticks (is_over_by s f)) (reigns_from s own at facts)
      ++ begun s (member_from s own facts) (clock at facts).ticks f
  reigns-more own at [] =
      append-nil (map (ruled_from s (clock_after at f) []) (begun s own at.ticks f))
      ∙ none-ruled (clock_after at f) (begun s own at.ticks f)
  reigns-more own at (x ∷ later) =
      let now = clock_after at x in
      let its = member_after s own x in
      let t = ruled (clock now later).ticks (is_over_by s f) in
      let first = map (ruled_from s now later) (begun s own at.ticks x) in
      let last = begun s (member_from s its later) (clock now later).ticks f in
      ap (λ (ys : List Reign). ys ++ reigns_from s its now (later ++ f ∷ []))
      (all-ruled now later (begun s own at.ticks x))
      ∙ ap (λ (ys : List Reign). map t first ++ ys) (reigns-more its now later)
      ∙ sym (append_assoc (map t first) (map t (reigns_from s its now later)) last)
      ∙ ap (λ (ys : List Reign). ys ++ last) (sym (both t first (reigns_from s its now later)))

-- ---- which are over

over-ruled : (at : ℕ) (b : Bool) (x : Reign) → IsOver x → IsOver (ruled at b x)
over-ruled at false x over = over
over-ruled at true x over =
    by_option x.to
    (λ none. absurd (cc (subst (λ (o : Option ℕ). IsTrue (is_some o)) none over)))
    (λ to some. rw some refl)

over-now : (at : ℕ) (x : Reign) → IsOver (ruled at true x)
over-now at x = by_option x.to (λ none. rw none refl) (λ to some. rw some refl)

all-over : (at : ℕ) (xs : List Reign) → AllOver (map (ruled at true) xs)
all-over at [] = tt
all-over at (x ∷ xs) = (over-now at x, all-over at xs)

front-ruled : (at : ℕ) (b : Bool) (xs : List Reign) → FrontOver xs → FrontOver (map (ruled at b) xs)
front-ruled at b [] over = tt
front-ruled at b (x ∷ []) over = tt
front-ruled at b (x ∷ (y ∷ xs)) over = (over-ruled at b x over.0, front-ruled at b (y ∷ xs) over.1)

front-more : (xs : List Reign) (last : Reign) → AllOver xs → FrontOver (xs ++ last ∷ [])
front-more [] last over = tt
front-more (x ∷ []) last over = (over.0, tt)
front-more (x ∷ (y ∷ xs)) last over = (over.0, front-more (y ∷ xs) last over.1)

stays-over : (at : ℕ) (b : Bool) (x : Reign) → IsOver x → ruled at b x ≡ x
stays-over at false x over = refl
stays-over at true x over = go x.to refl over
  where
    go : (o : Option ℕ) → x.to ≡ o → IsTrue (is_some o) → ruled at true x ≡ x
    go None is there = absurd (cc there)
    go (Some to) is there =
        ap (λ (o : Option ℕ). record x { to = option_or o (Some at) }) is ∙ ap (λ (o : Option ℕ). record x { to = o }) (sym is)

last-ruled : (at : ℕ) (b : Bool) (front : List Reign) (x : Reign) → FrontOver (front ++ x ∷ [])
    → map (ruled at b) (front ++ x ∷ []) ≡ front ++ ruled at b x ∷ []
last-ruled at b [] x over = refl
last-ruled at b (y ∷ []) x over = ap (λ (z : Reign). z ∷ ruled at b x ∷ []) (stays-over at b y over.0)
last-ruled at b (y ∷ (z ∷ front)) x over =
    ap (λ (w : Reign). w ∷ map (ruled at b) ((z ∷ front) ++ x ∷ [])) (stays-over at b y over.0)
    ∙ ap (λ (ws : List Reign). y ∷ ws) (last-ruled at b (z ∷ front) x over.1)

-- ---- when they began

abbrev By : ℕ → Reign → Type 0
By at x = x.from ≤ at

from-ruled : (at : ℕ) (b : Bool) (x : Reign) → (ruled at b x).from ≡ x.from
from-ruled at true x = refl
from-ruled at false x = refl

times-ruled : (at next : ℕ) (b : Bool) (xs : List Reign) → at ≤ next → All (By at) xs
    → All (By next) (map (ruled at b) xs)
times-ruled at next b [] less by = All-nil (By next)
times-ruled at next b (x ∷ xs) less by =
    let first : x.from ≤ at = All-head (By at) x xs by in
    All-cons (By next) (ruled at b x) (map (ruled at b) xs)
    (subst (λ n. n ≤ next) (sym (from-ruled at b x)) (omega (arith, first, less)))
    (times-ruled at next b xs less (All-tail (By at) x xs by))

few : (at : Clock) (facts : List Fact) → at.ticks ≤ most → (clock at facts).ticks ≤ most
few at [] less = less
few at (f ∷ facts) less = few (clock_after at f) facts (rises at f less).1

module _ (s : ℕ) where
  begun-over : (own : Option Mi) (f : Fact) → is_over_by s f ≡ false → is_begun_by s own f ≡ false
  begun-over own (shows.Server t mi) other = rw other refl
  begun-over own _ other = refl

  one-ruled : (at next : ℕ) (own : Option Mi) (f : Fact) (xs : List Reign) → at ≤ next → AreRuled at xs
      → AreRuled next (map (ruled at (is_over_by s f)) xs ++ begun s own at f)
  one-ruled at next own f xs less are = go (is_begun_by s own f) (is_over_by s f) refl refl
    where
      new : Reign
      new = record { from = at; to = None }

      times : (b : Bool) → All (By next) (map (ruled at b) xs)
      times b = times-ruled at next b xs less are.times

      go : (begins over : Bool) → is_begun_by s own f ≡ begins → is_over_by s f ≡ over
          → AreRuled next (map (ruled at (is_over_by s f)) xs ++ begun s own at f)
      go false over none is =
          subst (λ (b : Bool). AreRuled next (map (ruled at (is_over_by s f)) xs ++ crowned at b)) (sym none)
          (subst (AreRuled next) (sym (append-nil (map (ruled at (is_over_by s f)) xs))) (record {
            over = front-ruled at (is_over_by s f) xs are.over;
            times = times (is_over_by s f);
          }))
      go true false crowns other = absurd (cc (sym crowns ∙ begun-over own f other))
      go true true crowns is =
          subst (λ (b : Bool). AreRuled next (map (ruled at b) xs ++ crowned at (is_begun_by s own f))) (sym is)
          (subst (λ (b : Bool). AreRuled next (map (ruled at true) xs ++ crowned at b)) (sym crowns) (record {
            over = front-more (map (ruled at true) xs) new (all-over at xs);
            times = All-append (By next) (map (ruled at true) xs) (new ∷ []) (times true)
                (All-cons (By next) new [] less (All-nil (By next)));
          }))

  all-more : (before facts : List Fact) → AreRuled (clock start before).ticks (reigns s before)
      → AreRuled (clock start (before ++ facts)).ticks (reigns s (before ++ facts))
  all-more before [] are =
      subst (λ (fs : List Fact). AreRuled (clock start fs).ticks (reigns s fs)) (sym (append-nil before)) are
  all-more before (f ∷ facts) are =
      subst (λ (fs : List Fact). AreRuled (clock start fs).ticks (reigns s fs)) (append_assoc before (f ∷ []) facts)
      (all-more (before ++ f ∷ []) facts one)
    where
      at : Clock
      at = clock start before

      one : AreRuled (clock start (before ++ f ∷ [])).ticks (reigns s (before ++ f ∷ []))
      one =
          subst (λ (xs : List Reign). AreRuled (clock start (before ++ f ∷ [])).ticks xs) (sym (reigns-more s f None start before))
          (subst (λ (c : Clock). AreRuled c.ticks
          (map (ruled at.ticks (is_over_by s f)) (reigns s before) ++ begun s (member_from s None before) at.ticks f))
          (sym (clock-more start before f))
          (one-ruled at.ticks (clock_after at f).ticks (member_from s None before) f (reigns s before)
          (rises at f (few start before (omega arith))).0 are))

  pub are-ruled : (facts : List Fact) → AreRuled (clock start facts).ticks (reigns s facts)
  are-ruled facts = all-more [] facts (record { over = tt; times = All-nil (By 0) })

pub reigns-stand : (facts : List Fact) (f : Fact) (old new : KeptReigns) → AreReignsOf facts old
    → AreCourtsAfter f old new → AreReignsOf (facts ++ f ∷ []) new
reigns-stand facts f old new are after = record {
  clock_is = after.clock_is ∙ ap (λ (at : Clock). clock_after at f) are.clock_is ∙ sym (clock-more start facts f);
  members_are = λ s.
      (after.courts_are s).own_is ∙ ap (λ (own : Option Mi). member_after s own f) (are.members_are s)
      ∙ sym (member-more s f None facts);
  rows_are = λ s.
      subst (λ (xs : List Reign). IsThinned begun_at xs (court_at new.courts s).reigns)
      (ap (λ (at : Clock). map (ruled at.ticks (is_over_by s f)) (reigns s facts)
      ++ begun s (court_at old.courts s).own at.ticks f) are.clock_is
      ∙ ap (λ (own : Option Mi). map (ruled (clock start facts).ticks (is_over_by s f)) (reigns s facts)
      ++ begun s own (clock start facts).ticks f) (are.members_are s)
      ∙ sym (reigns-more s f None start facts))
      ((after.courts_are s).rows_are (reigns s facts)
      (subst (λ (at : Clock). AreRuled at.ticks (reigns s facts)) (sym are.clock_is) (are-ruled s facts))
      (are.rows_are s));
}

-- ---- one row

module _ (old new : Columns Reign) where
  abbrev Lasts : Option Reign → Type 0
  Lasts last = (items : List Reign) → IsThinned begun_at items old → IsLast items last

  pub ruled-some : (at : ℕ) (b : Bool) (last : Option Reign) (x item : Reign) → last ≡ Some x → Lasts last
      → item ≡ ruled at b x
      → ((front : List Reign) (x : Reign) → IsThinned begun_at (front ++ x ∷ []) old → item.from ≡ x.from
      → IsThinned begun_at (front ++ item ∷ []) new) → IsRuled at b old new
  ruled-some at b last x item there lasts same renews all are is =
      let parts : IsLast all (Some x) = subst (λ (o : Option Reign). IsLast all o) there (lasts all is) in
      let over : FrontOver (parts.0 ++ x ∷ []) = subst FrontOver parts.1 are.over in
      subst (λ (xs : List Reign). IsThinned begun_at xs new)
      (ap (λ (y : Reign). parts.0 ++ y ∷ []) same
      ∙ sym (ap (λ (xs : List Reign). map (ruled at b) xs) parts.1 ∙ last-ruled at b parts.0 x over))
      (renews parts.0 x (subst (λ (xs : List Reign). IsThinned begun_at xs old) parts.1 is)
      (ap (λ (y : Reign). y.from) same ∙ from-ruled at b x))

  pub ruled-none : (at : ℕ) (b : Bool) (last : Option Reign) → last ≡ None → Lasts last → new ≡ old → IsRuled at b old new
  ruled-none at b last there lasts same all are is =
      let none : all ≡ [] = subst (λ (o : Option Reign). IsLast all o) there (lasts all is) in
      subst (λ (k : Columns Reign). IsThinned begun_at (map (ruled at b) all) k) (sym same)
      (subst (λ (xs : List Reign). IsThinned begun_at (map (ruled at b) xs) old) (sym none)
      (subst (λ (xs : List Reign). IsThinned begun_at xs old) none is))

pub not-crowned : (at : ℕ) (row : Columns Reign) → IsCrowned at false row row
not-crowned at row all by is = subst (λ (xs : List Reign). IsThinned begun_at xs row) (sym (append-nil all)) is

pub court-after : (s at : ℕ) (f : Fact) (old : KeptCourt) (mid new : Columns Reign) (own : Option Mi)
    → IsRuled at (is_over_by s f) old.reigns mid → IsCrowned at (is_begun_by s old.own f) mid new
    → own ≡ member_after s old.own f → IsCourtAfter s at f old (record { own = own; reigns = new })
court-after s at f old mid new own over begins same = record {
  own_is = same;
  rows_are = λ all are is.
      begins (map (ruled at (is_over_by s f)) all)
      (times-ruled at at (is_over_by s f) all (omega arith) are.times) (over all are is);
}

pub court-taken : (f : Fact) (at : ℕ) (old : KeptCourt) (first own : Option Mi) (row mid new : Columns Reign)
    (over begins : Bool) (result : Result (Unit {0}) AllocError) → record { own = first; reigns = row } ≡ old
    → over ≡ is_over_by (place f) f → begins ≡ is_begun_by (place f) first f → own ≡ member_after (place f) first f
    → IsRuled at over row mid → OnOk result (IsCrowned at begins mid new)
    → OnOk result (IsCourtAfter (place f) at f old (record { own = own; reigns = new }))
court-taken f at old first own row mid new over begins result view over_is begins_is own_is rules crowns =
    on_ok result
    (λ crowned. subst (λ (k : KeptCourt). IsCourtAfter (place f) at f k (record { own = own; reigns = new })) view
    (court-after (place f) at f (record { own = first; reigns = row }) mid new own
    (subst (λ (b : Bool). IsRuled at b row mid) over_is rules)
    (subst (λ (b : Bool). IsCrowned at b mid new) begins_is crowned) own_is)) crowns

-- ---- the courts of all stations

unruled : (at : ℕ) (all : List Reign) → map (ruled at false) all ≡ all
unruled at [] = refl
unruled at (x ∷ all) = ap (λ (xs : List Reign). x ∷ xs) (unruled at all)

-- a fact is nothing to a court
pub record IsNothing (s : ℕ) (f : Fact) (mine : Option Mi) : Type 0 where
  pub over : is_over_by s f ≡ false
  pub begins : is_begun_by s mine f ≡ false
  pub own : member_after s mine f ≡ mine

stays-court : (s at : ℕ) (f : Fact) (court : KeptCourt) → IsNothing s f court.own → IsCourtAfter s at f court court
stays-court s at f court nothing = record {
  own_is = sym nothing.own;
  rows_are = λ all are is.
      subst (λ (b : Bool). IsThinned begun_at (map (ruled at b) all ++ begun s court.own at f) court.reigns) (sym nothing.over)
      (subst (λ (b : Bool). IsThinned begun_at (map (ruled at false) all ++ crowned at b) court.reigns) (sym nothing.begins)
      (subst (λ (xs : List Reign). IsThinned begun_at xs court.reigns)
      (sym (append-nil (map (ruled at false) all) ∙ unruled at all)) is));
}

elsewhere : (s : ℕ) (f : Fact) (own : Option Mi) → s ≢ place f → IsNothing s f own
elsewhere s (shows.Life t mi) own apart = record {
  over = unlike t s apart;
  begins = refl;
  own = ap (λ (b : Bool). if b then Some mi else own) (unlike t s apart);
}
elsewhere s (shows.Server t mi) own apart = record {
  over = unlike t s apart;
  begins = ap (λ (b : Bool). b && is_own own mi) (unlike t s apart);
  own = refl;
}
elsewhere s _ own apart = record { over = refl; begins = refl; own = refl }

pub courts-here : (f : Fact) (t : ℕ) (old : KeptReigns) (first : Clock) (xs : List KeptCourt) (given new : KeptCourt)
    (result : Result (Unit {0}) AllocError) → record { clock = first; courts = xs } ≡ old → t ≡ place f
    → slice_get xs t ≡ Some given → OnOk result (IsCourtAfter (place f) first.ticks f given new)
    → OnOk result ((s : ℕ) → IsCourtAfter s old.clock.ticks f (court_at old.courts s) (court_at (set xs t new) s))
courts-here f t old first xs given new result view is found after =
    subst (λ (k : KeptReigns). OnOk result
    ((s : ℕ) → IsCourtAfter s k.clock.ticks f (court_at k.courts s) (court_at (set xs t new) s))) view
    (on_ok result (λ one s. go one s (same-place s t)) after)
  where
    go : IsCourtAfter (place f) first.ticks f given new → (s : ℕ) → (s ≡ t) ⊎ (s ≢ t)
        → IsCourtAfter s first.ticks f (court_at xs s) (court_at (set xs t new) s)
    go one s (inl here) =
        subst (λ (p : ℕ). IsCourtAfter p first.ticks f (court_at xs p) (court_at (set xs t new) p)) (sym here)
        (subst (λ (o : Option KeptCourt). IsCourtAfter t first.ticks f (or_none o) (court_at (set xs t new) t)) (sym found)
        (subst (λ (o : Option KeptCourt). IsCourtAfter t first.ticks f given (or_none o)) (sym (set-here xs t given new found))
        (subst (λ (p : ℕ). IsCourtAfter p first.ticks f given new) (sym is) one)))
    go one s (inr apart) =
        subst (λ (o : Option KeptCourt). IsCourtAfter s first.ticks f (court_at xs s) (or_none o)) (sym (set-others xs t s new apart))
        (stays-court s first.ticks f (court_at xs s) (elsewhere s f (court_at xs s).own (λ e. apart (e ∙ sym is))))

-- no reign is over where there was none
bare-court : (s at : ℕ) (f : Fact) → is_begun_by s None f ≡ false → member_after s None f ≡ None
    → IsCourtAfter s at f no_court no_court
bare-court s at f begun own = record {
  own_is = sym own;
  rows_are = λ all are is.
      let none : all ≡ [] = is.columns_are in
      subst (λ (b : Bool). IsThinned begun_at (map (ruled at (is_over_by s f)) all ++ crowned at b) no_columns) (sym begun)
      (subst (λ (xs : List Reign). IsThinned begun_at (map (ruled at (is_over_by s f)) xs ++ []) no_columns) (sym none)
      (subst (λ (xs : List Reign). IsThinned begun_at xs no_columns) none is));
}

none-begun : (s : ℕ) (f : Fact) → is_begun_by s None f ≡ false
none-begun s (shows.Server t mi) = by_test (t == s) (λ y. rw y refl) (λ y. rw y refl)
none-begun s _ = refl

pub courts-nowhere : (f : Fact) (at t : ℕ) (kept : KeptReigns) (first : Clock) (xs : List KeptCourt)
    → record { clock = first; courts = xs } ≡ kept → t ≡ place f → (t < length xs → ⊥) → HasCourt f kept
    → (s : ℕ) → IsCourtAfter s at f (court_at kept.courts s) (court_at xs s)
courts-nowhere f at t kept first xs view is nobody has s =
    subst (λ (k : List KeptCourt). IsCourtAfter s at f (court_at kept.courts s) (court_at k s))
    (sym (ap (λ (k : KeptReigns). k.courts) view)) (go (same-place s t))
  where
    none : t < length kept.courts → ⊥
    none less = nobody (subst (λ (k : KeptReigns). t < length k.courts) (sym view) less)

    member : (f : Fact) → HasCourt f kept → (place f < length kept.courts → ⊥) → (s : ℕ) → member_after s None f ≡ None
    member (shows.Life t mi) has none s = absurd (none has)
    member _ has none s = refl

    go : (s ≡ t) ⊎ (s ≢ t) → IsCourtAfter s at f (court_at kept.courts s) (court_at kept.courts s)
    go (inl here) =
        subst (λ (o : Option KeptCourt). IsCourtAfter s at f (or_none o) (or_none o))
        (sym (ap (λ (p : ℕ). slice_get kept.courts p) here ∙ past-none kept.courts t none))
        (bare-court s at f (none-begun s f)
        (member f has (λ less. none (subst (λ (p : ℕ). p < length kept.courts) (sym is) less)) s))
    go (inr apart) =
        stays-court s at f (court_at kept.courts s) (elsewhere s f (court_at kept.courts s).own (λ e. apart (e ∙ sym is)))
