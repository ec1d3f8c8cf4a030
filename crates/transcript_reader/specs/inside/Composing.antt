-- Lines are taken one after another: what the laws of a taker of lines cite.
use Rattle.std.specs.Prelude.{ℕ, List, [], ◌∷◌, ◌++◌, Result, Ok, Err}
use Rattle.std.proofs.Common.{◌∙◌, refl, sym, ap, subst}
use Rattle.std.proofs.lemmas.List.{append_assoc}
use Rattle.lan_core.specs.declared.fact.Fact.{Fact}
use Rattle.text_lines.specs.Moments.{Moment}
use Rattle.transcript_reader.specs.Facts.{Known}
use Rattle.transcript_reader.specs.Taking.{Courses, Rule}
use Rattle.transcript_reader.specs.Transcripts.{AreTaken}
use Rattle.transcript_reader.specs.declared.take_error.TakeError.{TakeError}
use Rattle.transcript_reader.specs.declared.take_error.TakeError.TheVariants.{Refused, Failed, Memory}
use Rattle.transcript_reader.specs.inside.Lines.{TookBy, DidLines, Seeing, TookAll, TookPart, beside}

taken-append : {F : Type 0} (rule : Rule F) (known : Known) (facts : List Fact) (xs ys : List (List ℕ))
    (mid : Known) (told : List Fact) (last : Known) (all : List Fact) → AreTaken rule known facts xs mid told
    → AreTaken rule mid told ys last all → AreTaken rule known facts (xs ++ ys) last all
taken-append rule known facts [] ys mid told last all t u =
    subst (λ (ns : Known). AreTaken rule ns facts ys last all) (sym t.0)
    (subst (λ (fs : List Fact). AreTaken rule mid fs ys last all) (sym t.1) u)
taken-append rule known facts (x ∷ xs) ys mid told last all t u =
    (t.0, t.1, t.2, t.3, taken-append rule t.0 (facts ++ t.1 ∷ []) xs ys mid told last all t.4 u)

-- ---- lines behind lines

module _ {F : Type 0} (rule : Rule F) (known : Known) (facts : List Fact) (xs : List (List ℕ)) (mid : Known)
    (told : List Fact) (first : AreTaken rule known facts xs mid told) where
  abbrev all-more : (Holds : List Fact → Type 0) (ys : List (List ℕ)) (after : Known) (count : ℕ)
      → TookAll rule Holds mid told ys after count → TookAll rule Holds known facts (xs ++ ys) after count
  all-more Holds ys after count u = record {
    told = u.told;
    taken = taken-append rule known facts xs ys mid told after u.told first u.taken;
    counted = u.counted;
    holds = u.holds;
  }

  abbrev part-more : (Holds : List Fact → Type 0) (ys : List (List ℕ)) → TookPart rule Holds mid told ys
      → TookPart rule Holds known facts (xs ++ ys)
  part-more Holds ys u = record {
    front = xs ++ u.front;
    later = u.later;
    parts = append_assoc xs u.front u.later ∙ ap (λ zs. xs ++ zs) u.parts;
    after = u.after;
    told = u.told;
    taken = taken-append rule known facts xs u.front mid told u.after u.told first u.taken;
    holds = u.holds;
  }

  module _ {T K : Type 0} (courses : Courses T K) (start : Moment T K) (ys : List (List ℕ)) (after : Known)
      (count : ℕ) (now : Moment T K) where
    comes-more : (r : Result (Unit {0}) (TakeError F)) → TookBy rule courses start mid told ys after count now r
        → TookBy rule courses start known facts (xs ++ ys) after count now r
    comes-more (Ok done) u = all-more (λ told. courses.Took start told now) ys after count u
    comes-more (Err (Refused why)) u = record {
      earlier = xs ++ u.earlier;
      line = u.line;
      later = u.later;
      parts = append_assoc xs u.earlier (u.line ∷ u.later) ∙ ap (λ zs. xs ++ zs) u.parts;
      after = u.after;
      took = all-more (λ told. courses.Took start told now) u.earlier u.after count u.took;
      denied = u.denied;
    }
    comes-more (Err Failed) u = part-more (λ told. courses.Cut start told now) ys u
    comes-more (Err Memory) u = part-more (λ told. courses.Broke start told now) ys u

-- ---- lines behind a refused one are not handed on

module _ {F : Type 0} (rule : Rule F) (known : Known) (facts : List Fact) (xs ys : List (List ℕ)) where
  abbrev part-early : (Holds : List Fact → Type 0) → TookPart rule Holds known facts xs
      → TookPart rule Holds known facts (xs ++ ys)
  part-early Holds u = record {
    front = u.front;
    later = u.later ++ ys;
    parts = sym (append_assoc u.front u.later ys) ∙ ap (λ zs. zs ++ ys) u.parts;
    after = u.after;
    told = u.told;
    taken = u.taken;
    holds = u.holds;
  }

  comes-early : {T K : Type 0} (courses : Courses T K) (start : Moment T K) (after : Known) (count : ℕ)
      (now : Moment T K) (error : TakeError F)
      → TookBy rule courses start known facts xs after count now (Err error)
      → TookBy rule courses start known facts (xs ++ ys) after count now (Err error)
  comes-early courses start after count now (Refused why) u = record {
    earlier = u.earlier;
    line = u.line;
    later = u.later ++ ys;
    parts = sym (append_assoc u.earlier (u.line ∷ u.later) ys) ∙ ap (λ zs. zs ++ ys) u.parts;
    after = u.after;
    took = u.took;
    denied = u.denied;
  }
  comes-early courses start after count now Failed u = part-early (λ told. courses.Cut start told now) u
  comes-early courses start after count now Memory u = part-early (λ told. courses.Broke start told now) u

-- ---- what a taker of lines owes

module _ {F P T K : Type 0} (rule : Rule F) (courses : Courses T K) (Grew Fails : K → K → Type 0)
    (see : Seeing P T) where
  pub did-none : ((k : K) → Grew k k) → (a : Moment P K)
      → DidLines rule courses Grew Fails see [] a a (Ok tt)
  did-none stays a = record {
    takes = λ first facts counted took. record {
      told = facts;
      taken = (refl, refl);
      counted = counted;
      holds = took;
    };
    grew = stays a.outlet;
    failed = λ is. absurd (cc is);
  }

  pub did-more : ((a b c : K) → Grew a b → Grew b c → Grew a c) → ((a b c : K) → Grew a b → Fails b c → Fails a c)
      → (a b c : Moment P K) (xs ys : List (List ℕ)) (r : Result (Unit {0}) (TakeError F))
      → DidLines rule courses Grew Fails see xs a b (Ok tt) → DidLines rule courses Grew Fails see ys b c r
      → DidLines rule courses Grew Fails see (xs ++ ys) a c r
  did-more further late a b c xs ys r d e = record {
    takes = λ first facts counted took.
        let t = d.takes first facts counted took in
        comes-more rule (see.known a.taker) facts xs (see.known b.taker) t.told t.taken courses first ys
        (see.known c.taker) (see.count c.taker) (beside see c) r
        (e.takes first t.told t.counted t.holds);
    grew = further a.outlet b.outlet c.outlet d.grew e.grew;
    failed = λ is. late a.outlet b.outlet c.outlet d.grew (e.failed is);
  }

  pub did-early : (a b : Moment P K) (xs ys : List (List ℕ)) (error : TakeError F)
      → DidLines rule courses Grew Fails see xs a b (Err error)
      → DidLines rule courses Grew Fails see (xs ++ ys) a b (Err error)
  did-early a b xs ys error d = record {
    takes = λ first facts counted took.
        comes-early rule (see.known a.taker) facts xs ys courses first (see.known b.taker) (see.count b.taker)
        (beside see b) error (d.takes first facts counted took);
    grew = d.grew;
    failed = d.failed;
  }
