-- Whoever draws a transcript and whoever judges it refuse the same line, for the same reason.
use Rattle.std.proofs.Common.{◌≡◌, ◌∙◌, ◌<◌, ◌≤◌, ◌⊎◌, inl, inr, ℕ, List, length, Result, Ok, Err, refl, sym, ap, subst}
use Rattle.std.specs.Prelude.{take}
use Rattle.text_lines.specs.Texts.{whole_lines, lines_of}
use Rattle.text_lines.specs.Reading.{Sourced, lines_within}
use Rattle.lan_base.specs.Ranges.{most_input}
use Rattle.transcript_check.specs.declared.fault.CheckFault.{CheckFault}
use Rattle.transcript_reader.specs.Transcripts.{AreRead as AreReadBy, EndsBy}
use Rattle.text_lines.specs.declared.unfinished.Unfinished.{Unfinished}
use Rattle.text_lines.specs.declared.unfinished.Unfinished.TheVariants as ends
use Rattle.transcript_reader.proofs.Public.{all-within, by-end-as, past-within, read-as}
use Rattle.lan_core.specs.declared.fact.Fact.{Fact}
use Rattle.transcript_check.specs.Standing.{by_epochs}
use Rattle.transcript_check.specs.Transcripts.{AreRead, IsRefused}

-- what the law of refused lines gives, as premises
pub record OneRefusal : Type 0 where
  pub one : (lines : List (List ℕ)) (number again : ℕ) (why other : CheckFault)
      → IsRefused lines number why → IsRefused lines again other → (number ≡ again) × (why ≡ other)
  pub none : (lines : List (List ℕ)) (number : ℕ) (why : CheckFault) → IsRefused lines number why
      → AreRead lines → ⊥

-- whatever holds of the facts
bare : (Holds : List Fact → Type 0) (lines : List (List ℕ)) → AreReadBy by_epochs Holds lines → AreRead lines
bare Holds lines read = read-as by_epochs Holds (λ facts. Unit {0}) (λ facts holds. tt) lines read

pub bare-refused : (X : Type 0) (Holds : List Fact → Type 0) (text : List ℕ) (left now : Sourced) (number : ℕ)
    (why : CheckFault) → EndsBy {X = X} by_epochs Holds text left now (Err (ends.Refused number why))
    → IsRefused (lines_within most_input text) number why
bare-refused X Holds text left now number why e =
    by-end-as by_epochs (λ facts. Unit {0}) (λ facts. Unit {0}) Holds (λ facts. Unit {0}) (λ facts held. tt)
    (λ facts holds. tt) text left now X X (ends.Refused number why) e

module _ (law : OneRefusal) (text : List ℕ) (number : ℕ) (why : CheckFault) where
  -- neither all lines of the text are taken, nor those within the limit where it is longer
  not-all : IsRefused (lines_within most_input text) number why → length text ≤ most_input
      → AreRead (lines_of text) → ⊥
  not-all refused few read =
      law.none (lines_within most_input text) number why refused
      (subst AreRead (sym (all-within text few)) read)

  not-within : IsRefused (lines_within most_input text) number why → most_input < length text
      → AreRead (whole_lines (take most_input text)) → ⊥
  not-within refused more read =
      law.none (lines_within most_input text) number why refused
      (subst AreRead (sym (past-within text more)) read)

  pub refused-alike : IsRefused (lines_within most_input text) number why → {X : Type 0}
      (Holds : Result X (Unfinished CheckFault) → List Fact → Type 0)
      → ((facts : List Fact) → Holds (Err ends.WriteFault) facts → ⊥) → (left now : Sourced)
      (result : Result X (Unfinished CheckFault)) → EndsBy by_epochs (Holds result) text left now result
      → (result ≡ Err (ends.Refused number why)) ⊎ (result ≡ Err ends.Memory)
      ⊎ (result ≡ Err ends.ReadFault)
  refused-alike refused Holds never left now (Ok answer) e =
      absurd (not-all refused e.0 (bare (Holds (Ok answer)) (lines_of text) e.2))
  refused-alike refused {X} Holds never left now (Err (ends.Refused again other)) e =
      let same = law.one (lines_within most_input text) again number other why
      (bare-refused X (Holds (Err (ends.Refused again other))) text left now again other e) refused in
      inl (ap (λ n. Err (ends.Refused n other)) same.0
      ∙ ap (λ f. Err (ends.Refused number f)) same.1)
  refused-alike refused Holds never left now (Err ends.Memory) e = inr (inl refl)
  refused-alike refused Holds never left now (Err ends.WriteFault) e = absurd (never e.read.facts e.read.holds)
  refused-alike refused Holds never left now (Err ends.ReadFault) e = inr (inr refl)
  refused-alike refused Holds never left now (Err ends.Limit) e =
      absurd (not-within refused e.0 (bare (Holds (Err ends.Limit)) (whole_lines (take most_input text)) e.1))
