-- What a fact does to the rows of its station, and to those of others.
use Rattle.std.proofs.Common.{◌≡◌, ◌≢◌, ◌∙◌, ◌⊎◌, ◌<◌, ℕ, zero, suc, Bool, true, false, List, [], ◌∷◌, ◌++◌, length, Option, Some, None, Ok, refl, sym, ap, subst, inl, inr, arith}
use Rattle.std.specs.Prelude.{◌==◌, ◌&&◌, if◌then◌else◌, map, slice_get}
use Rattle.std.proofs.lemmas.List.{append-nil}
use Rattle.lan_base.specs.AssociationNumbers.{same_an}
use Rattle.lan_base.specs.declared.association_number.AssociationNumber.{AssociationNumber}
use Rattle.lan_base.specs.declared.association_number.AssociationNumber.TheVariants.{An0, An1, An2, An3}
use Rattle.lan_core.specs.Run.{place}
use Rattle.lan_core.specs.declared.fact.Fact.{Fact}
use Rattle.lan_core.specs.declared.fact.Fact.TheVariants as shows
use Rattle.tick_columns.specs.Columns.{IsThinned, Columns, no_columns}
use Rattle.key_spans.specs.declared.clock.Clock.{Clock}
use Rattle.key_spans.specs.declared.span.Span.{Span}
use Rattle.key_spans.specs.declared.span.Turn.{Turn}
use Rattle.key_spans.specs.declared.span.Turn.TheVariants.{Ends, Begins, Relieves}
use Rattle.key_spans.specs.declared.span.Why.TheVariants.{Replaced, Retired, Dropped, Restarted}
use Rattle.key_spans.specs.Spans.{clock_after, opened, touched, turn_by}
use Rattle.key_spans.specs.Standing.{KeptSpans, Rows, installed_at, row_at, row_in, row_of}
use Rattle.key_spans.specs.inside.Taking.{AreBy, IsGrownRow, IsKeptRow, IsLaneAfter, IsOnly, IsPlaced, IsReached, IsRowAfter, IsFactTaken, IsTakenAt, TakesAt, installs}
use Rattle.key_spans.proofs.Rows.{same-place}

-- ---- one row of four

abbrev By : (Columns Span → Columns Span → Type 0) → Bool → Columns Span → Columns Span → Type 0
By P true old new = P old new
By P false old new = new ≡ old

pick : (P : Columns Span → Columns Span → Type 0) (a an : AssociationNumber) (old new : Rows)
    → IsOnly a P old new → By P (same_an a an) (row_in old an) (row_in new an)
pick P An0 An0 old new is = is.0
pick P An0 An1 old new is = ap (λ (r : Rows). r.an1) is.1
pick P An0 An2 old new is = ap (λ (r : Rows). r.an2) is.1
pick P An0 An3 old new is = ap (λ (r : Rows). r.an3) is.1
pick P An1 An0 old new is = ap (λ (r : Rows). r.an0) is.1
pick P An1 An1 old new is = is.0
pick P An1 An2 old new is = ap (λ (r : Rows). r.an2) is.1
pick P An1 An3 old new is = ap (λ (r : Rows). r.an3) is.1
pick P An2 An0 old new is = ap (λ (r : Rows). r.an0) is.1
pick P An2 An1 old new is = ap (λ (r : Rows). r.an1) is.1
pick P An2 An2 old new is = is.0
pick P An2 An3 old new is = ap (λ (r : Rows). r.an3) is.1
pick P An3 An0 old new is = ap (λ (r : Rows). r.an0) is.1
pick P An3 An1 old new is = ap (λ (r : Rows). r.an1) is.1
pick P An3 An2 old new is = ap (λ (r : Rows). r.an2) is.1
pick P An3 An3 old new is = is.0

-- ---- a key comes

untouched : (at : ℕ) (all : List Span) → map (touched at None) all ≡ all
untouched at [] = refl
untouched at (x ∷ all) = ap (λ (xs : List Span). x ∷ xs) (untouched at all)

same-row : (at : ℕ) (all : List Span) (row : Columns Span) → IsThinned installed_at all row
    → IsThinned installed_at (map (touched at None) all ++ []) row
same-row at all row is =
    subst (λ (xs : List Span). IsThinned installed_at xs row)
    (sym (append-nil (map (touched at None) all) ∙ untouched at all)) is

pub same-number : (s : ℕ) → (s == s) ≡ true
same-number s = grind arith

module _ (s : ℕ) (a : AssociationNumber) (span : Span) where
  -- a row behind a key that came, or did not
  abbrev AfterIf : Bool → Columns Span → Columns Span → Type 0
  AfterIf b old new = (all : List Span) → AreBy span.installed all → IsThinned installed_at all old
      → IsThinned installed_at
      (map (touched span.installed (if b then Some (Ends Replaced) else None)) all ++ (if b then span ∷ [] else [])) new

  after-by : (b : Bool) (old new : Columns Span) → By (IsGrownRow span) b old new → AfterIf b old new
  after-by true old new is = is
  after-by false old new same = λ all by is.
      subst (λ (k : Columns Span). IsThinned installed_at (map (touched span.installed None) all ++ []) k) (sym same)
      (same-row span.installed all old is)

  pub after-number : (an : AssociationNumber) (old new : Rows) → IsOnly a (IsGrownRow span) old new
      → AfterIf ((s == s) && same_an a an) (row_in old an) (row_in new an)
  after-number an old new is =
      subst (λ (b : Bool). AfterIf (b && same_an a an) (row_in old an) (row_in new an)) (sym (same-number s))
      (after-by (same_an a an) (row_in old an) (row_in new an) (pick (IsGrownRow span) a an old new is))

pub grown-lane : (at : ℕ) (fact : Fact) (span : Span) (old new : Rows) → installs at fact ≡ Some span
    → IsOnly span.number (IsGrownRow span) old new → IsLaneAfter (place fact) at fact old new
grown-lane at (shows.Installed s id a epoch sak) span old new is grown = record {
  rows_are = λ an. after-number s a own an old new
      (subst (λ (x : Span). IsOnly x.number (IsGrownRow x) old new) (sym (some-same own span is)) grown);
}
  where
    own : Span
    own = record {
      station = s;
      number = a;
      id = id;
      epoch = epoch;
      installed = at;
      began = None;
      relieved = None;
      ended = None;
    }

    some-same : (x y : Span) → Some x ≡ Some y → x ≡ y
    some-same x y e = cc e
grown-lane at _ span old new is grown = absurd (cc is)

kept-by : (at : ℕ) (b : Bool) (old new : Columns Span) → By (IsKeptRow at) b old new → IsKeptRow at old new
kept-by at true old new is = is
kept-by at false old new same = λ all by is.
    subst (λ (k : Columns Span). IsThinned installed_at all k) (sym same) is

-- ---- a key is touched

pub opens-none : (s : ℕ) (an : AssociationNumber) (at now : ℕ) (fact : Fact) → installs at fact ≡ None
    → opened s an now fact ≡ []
opens-none s an at now (shows.Installed t id a epoch sak) is = absurd (cc is)
opens-none s an at now _ is = refl

-- ---- other stations

pub unlike : (t s : ℕ) → s ≢ t → (t == s) ≡ false
unlike t s apart = go (t == s) refl
  where
    go : (b : Bool) → (t == s) ≡ b → b ≡ false
    go true is = absurd (apart (grind (arith, is)))
    go false is = refl

-- a fact is nothing to a station that does not show it
pub record IsNothing (s : ℕ) (an : AssociationNumber) (at : ℕ) (fact : Fact) : Type 0 where
  pub turn : turn_by s an fact ≡ None
  pub none : opened s an at fact ≡ []

pub elsewhere : (s : ℕ) (an : AssociationNumber) (at : ℕ) (fact : Fact) → s ≢ place fact → IsNothing s an at fact
elsewhere s an at (shows.Installed t id a epoch sak) apart = record {
  turn = ap (λ (b : Bool). if b && same_an a an then Some (Ends Replaced) else None) (unlike t s apart);
  none = ap (λ (b : Bool). if b && same_an a an then record {
    station = t;
    number = a;
    id = id;
    epoch = epoch;
    installed = at;
    began = None;
    relieved = None;
    ended = None;
  } ∷ [] else []) (unlike t s apart);
}
elsewhere s an at (shows.Retired t id a) apart = record {
  turn = ap (λ (b : Bool). if b && same_an a an then Some (Ends Retired) else None) (unlike t s apart);
  none = refl;
}
elsewhere s an at (shows.Dropped t id a) apart = record {
  turn = ap (λ (b : Bool). if b && same_an a an then Some (Ends Dropped) else None) (unlike t s apart);
  none = refl;
}
elsewhere s an at (shows.Life t mi) apart = record {
  turn = ap (λ (b : Bool). if b then Some (Ends Restarted) else None) (unlike t s apart);
  none = refl;
}
elsewhere s an at (shows.Began t id a epoch cause) apart = record {
  turn = ap (λ (b : Bool). if b then Some (if same_an a an then Begins else Relieves) else None) (unlike t s apart);
  none = refl;
}
elsewhere s an at _ apart = record { turn = refl; none = refl }

pub nothing-after : (s : ℕ) (an : AssociationNumber) (at : ℕ) (fact : Fact) (old new : Columns Span)
    → IsNothing s an at fact → new ≡ old → IsRowAfter s an at fact old new
nothing-after s an at fact old new nothing same all by is =
    subst (λ (k : Columns Span). IsThinned installed_at (map (touched at (turn_by s an fact)) all ++ opened s an at fact) k)
    (sym same)
    (subst (λ (t : Option Turn). IsThinned installed_at (map (touched at t) all ++ opened s an at fact) old)
    (sym nothing.turn)
    (subst (λ (o : List Span). IsThinned installed_at (map (touched at None) all ++ o) old) (sym nothing.none)
    (same-row at all old is)))

-- the rows where a fact was taken by those of its station
rows-here : (fact : Fact) (old mid new : KeptSpans) (rows : Rows) → IsReached old mid
    → slice_get mid.lanes (place fact) ≡ Some rows → IsTakenAt fact mid new rows
    → (s : ℕ) (an : AssociationNumber)
    → IsRowAfter s an old.clock.ticks fact (row_at old.lanes s an) (row_at new.lanes s an)
rows-here fact old mid new rows reached found taken s an = go s (same-place s (place fact))
  where
    Goal : ℕ → Type 0
    Goal s = IsRowAfter s an old.clock.ticks fact (row_at old.lanes s an) (row_at new.lanes s an)

    here : Goal (place fact)
    here =
        subst (λ (k : Columns Span). IsRowAfter (place fact) an old.clock.ticks fact k (row_at new.lanes (place fact) an))
        (sym (ap (λ (o : Option Rows). row_of o an) found) ∙ reached.rows_are (place fact) an)
        (subst (λ (o : Option Rows). IsRowAfter (place fact) an old.clock.ticks fact (row_in rows an) (row_of o an))
        (sym taken.here)
        (subst (λ (at : Clock). IsRowAfter (place fact) an at.ticks fact (row_in rows an) (row_in taken.then an)) reached.clock_is
        (taken.lane.rows_are an)))

    go : (s : ℕ) → (s ≡ place fact) ⊎ (s ≢ place fact) → Goal s
    go s (inl is) = subst (λ p. Goal p) (sym is) here
    go s (inr apart) =
        nothing-after s an old.clock.ticks fact (row_at old.lanes s an) (row_at new.lanes s an)
        (elsewhere s an old.clock.ticks fact apart)
        (ap (λ (o : Option Rows). row_of o an) (taken.others s apart) ∙ reached.rows_are s an)

-- those of a fact that installs nothing, at a station without rows
rows-nowhere : (fact : Fact) (at : ℕ) (lanes : List Rows) → slice_get lanes (place fact) ≡ None
    → installs 0 fact ≡ None → (s : ℕ) (an : AssociationNumber)
    → IsRowAfter s an at fact (row_at lanes s an) (row_at lanes s an)
rows-nowhere fact at lanes none nothing s an = go s (same-place s (place fact))
  where
    empty : (s : ℕ) (row : Columns Span) → row ≡ no_columns → IsRowAfter s an at fact row row
    empty s row is = λ all by thin.
        let gone : all ≡ [] = (subst (λ (k : Columns Span). IsThinned installed_at all k) is thin).columns_are in
        subst (λ (o : List Span). IsThinned installed_at (map (touched at (turn_by s an fact)) all ++ o) row)
        (sym (opens-none s an 0 at fact nothing))
        (subst (λ (xs : List Span). IsThinned installed_at (map (touched at (turn_by s an fact)) xs ++ []) row)
        (sym gone) (subst (λ (xs : List Span). IsThinned installed_at xs row) gone thin))

    go : (s : ℕ) → (s ≡ place fact) ⊎ (s ≢ place fact)
        → IsRowAfter s an at fact (row_at lanes s an) (row_at lanes s an)
    go s (inl is) =
        empty s (row_at lanes s an)
        (ap (λ p. row_at lanes p an) is ∙ ap (λ (o : Option Rows). row_of o an) none)
    go s (inr apart) =
        nothing-after s an at fact (row_at lanes s an) (row_at lanes s an) (elsewhere s an at fact apart) refl

rows-taken : (fact : Fact) (old mid new : KeptSpans) (o : Option Rows) → slice_get mid.lanes (place fact) ≡ o
    → IsReached old mid → IsPlaced fact mid → TakesAt fact mid new o (Ok tt)
    → (s : ℕ) (an : AssociationNumber)
    → IsRowAfter s an old.clock.ticks fact (row_at old.lanes s an) (row_at new.lanes s an)
rows-taken fact old mid new None found reached placed taken s an =
    subst (λ (k : Columns Span). IsRowAfter s an old.clock.ticks fact k (row_at new.lanes s an)) (reached.rows_are s an)
    (subst (λ (k : KeptSpans). IsRowAfter s an old.clock.ticks fact (row_at mid.lanes s an) (row_at k.lanes s an)) (sym taken.0)
    (rows-nowhere fact old.clock.ticks mid.lanes found (placed found) s an))
rows-taken fact old mid new (Some rows) found reached placed taken s an =
    rows-here fact old mid new rows reached found taken s an

clock-taken : (fact : Fact) (mid new : KeptSpans) (o : Option Rows) → TakesAt fact mid new o (Ok tt)
    → new.clock ≡ mid.clock
clock-taken fact mid new None taken = ap (λ (k : KeptSpans). k.clock) taken.0
clock-taken fact mid new (Some rows) taken = taken.clock_is

pub taken-whole : (fact : Fact) (old mid next new : KeptSpans) → IsReached old mid → IsPlaced fact mid
    → TakesAt fact mid next (slice_get mid.lanes (place fact)) (Ok tt)
    → new.clock ≡ clock_after next.clock fact → new.lanes ≡ next.lanes → IsFactTaken fact old new
taken-whole fact old mid next new reached placed taken clock_is same = record {
  clock_is = clock_is ∙ ap (λ (at : Clock). clock_after at fact)
      (clock-taken fact mid next (slice_get mid.lanes (place fact)) taken ∙ reached.clock_is);
  rows_are = λ s an.
      subst (λ (ls : List Rows). IsRowAfter s an old.clock.ticks fact (row_at old.lanes s an) (row_at ls s an)) (sym same)
      (rows-taken fact old mid next (slice_get mid.lanes (place fact)) refl reached placed taken s an);
}

-- ---- where there was no memory

pub none-past : {X : Type 0} (xs : List X) (s : ℕ) → s < length xs → slice_get xs s ≡ None → ⊥
none-past [] s less none = absurd (omega (arith, less))
none-past (x ∷ xs) zero less none = cc none
none-past (x ∷ xs) (suc s) less none = none-past xs s (omega (arith, less)) none
