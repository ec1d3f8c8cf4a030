-- Draws are 16 octets each.
use Rattle.std.proofs.Common.{◌≡◌, ◌<◌, ℕ, zero, suc, ◌+◌, List, [], ◌∷◌, ◌++◌, Option, Some, None}
use Rattle.std.proofs.Common.{refl, ap, ◌∙◌, subst, arith}
use Rattle.std.specs.Prelude.{map, slice_get, All}
use Rattle.std.proofs.lemmas.List.Elements.{All-cons}
use Rattle.hex.specs.Hex.{IsBytes}
use Rattle.rand_chacha.specs.ChaCha.{key_of}
use Rattle.lan_core.specs.Types.{AreSome}
use Rattle.lan_core.specs.Unstopped.{AreDraws}
use Rattle.lan_core.proofs.Public.{counts-are, streamed-are}
use Rattle.trace_text.specs.declared.line.Line.{Line}
use Rattle.trace_text.specs.declared.line.Line.TheVariants as lines
use Rattle.trace_text.specs.Kinds.{exactly}
use Rattle.trace_text.specs.Writing.{IsInForm, AllFit, ◌∶◌}
use Rattle.trace_acts.specs.declared.choices.Choices.{Choices}
use Rattle.trace_acts.specs.declared.choices.Rule.{Rule}
use Rattle.trace_acts.specs.declared.choices.Rule.TheVariants.{Counted, Streamed, Listed}
use Rattle.trace_acts.specs.Supply.{draw_at, draws_after}
use Rattle.trace_acts.specs.Settings.{rule_of}
use Rattle.trace_acts.specs.Choosing.{listed_after, chosen_by}

pub bytes-all : (xs : List ℕ) → IsBytes xs → All (λ octet. octet < 256) xs
bytes-all [] h = λ k d lt. absurd (omega arith)
bytes-all (x ∷ xs) h = All-cons (λ octet. octet < 256) x xs (h 0) (bytes-all xs (λ i. h (suc i)))

-- each of a list is a draw
abbrev pub AreBlocks : List (List ℕ) → Type 0
AreBlocks values = (k : ℕ) (draw : List ℕ) → slice_get values k ≡ Some draw → AreSome 16 draw

blocks-more : (before values : List (List ℕ)) → AreBlocks before → AreBlocks values
    → AreBlocks (before ++ values)
blocks-more [] values first second k draw e = second k draw e
blocks-more (x ∷ xs) values first second zero draw e = first zero draw e
blocks-more (x ∷ xs) values first second (suc k) draw e =
    blocks-more xs values (λ j d f. first (suc j) d f) second k draw e

blocks-said : (values : List (List ℕ)) → AllFit (map (λ value. exactly 16 ∶ value) values)
    → AreBlocks values
blocks-said [] fits k draw e = absurd (cc e)
blocks-said (x ∷ xs) fits zero draw e = let same : x
    ≡ draw = cc in subst (λ (d : List ℕ). AreSome 16 d) same (fits.0.0, bytes-all x fits.0.1)
blocks-said (x ∷ xs) fits (suc k) draw e = blocks-said xs fits.1 k draw e

list-ends : (values : List (List ℕ)) (k : ℕ) → slice_get values k ≡ None
    → slice_get values (suc k) ≡ None
list-ends [] k e = refl
list-ends (x ∷ []) zero e = refl
list-ends (x ∷ y ∷ xs) zero e = absurd (cc e)
list-ends (x ∷ xs) (suc k) e = list-ends xs k e

-- what is still to come after so many draws
pub taken-draws : (rule : Rule) (taken : ℕ) → AreDraws (draw_at rule)
    → AreDraws (draws_after rule taken)
taken-draws rule taken draws = record {
  shape = λ place draw is. draws.shape (taken + place) draw is;
  ends = λ place none. let e : taken + (place + 1) ≡ taken + place + 1 = omega arith in
      ap (λ (n : ℕ). draw_at rule n) e ∙ draws.ends (taken + place) none;
}

listed-draws : (values : List (List ℕ)) → AreBlocks values → AreDraws (draw_at (Listed values))
listed-draws values all = record {
  shape = λ place draw is. all place draw is;
  ends = λ place none. let e : place + 1
      ≡ suc place = omega arith in ap (λ (n : ℕ). slice_get values n) e
      ∙ list-ends values place none;
}

pub counted-draws : AreDraws (draw_at Counted)
counted-draws = counts-are 0

after-draws : (rule : Option Rule) (values : List (List ℕ))
    → ((before : List (List ℕ)) → rule ≡ Some (Listed before) → AreBlocks before) → AreBlocks values
    → AreDraws (draw_at (listed_after rule values))
after-draws None values before all = listed-draws values all
after-draws (Some Counted) values before all = listed-draws values all
after-draws (Some (Streamed key)) values before all = listed-draws values all
after-draws (Some (Listed first)) values before all =
    listed-draws (first ++ values) (blocks-more first values (before first refl) all)

blocks-of : (chosen : Choices) (before : List (List ℕ)) → AreDraws (draw_at (rule_of chosen))
    → chosen.draws ≡ Some (Listed before) → AreBlocks before
blocks-of chosen before drawn e = λ k draw is.
    drawn.shape k draw (ap (λ (o : Option Rule). draw_at (rule_of (record chosen { draws = o })) k)
    e ∙ is)

-- a line leaves the draws such
pub chosen-draws : (line : Line) → IsInForm line → (chosen : Choices)
    → AreDraws (draw_at (rule_of chosen)) → AreDraws (draw_at (rule_of (chosen_by line chosen)))
chosen-draws lines.DrawsCount form chosen drawn = counts-are 0
chosen-draws (lines.DrawsChaCha key) form chosen drawn = streamed-are (key_of key) 0
chosen-draws (lines.DrawsList values) form chosen drawn =
    after-draws chosen.draws values (λ before e. blocks-of chosen before drawn e)
    (blocks-said values form.fits)
chosen-draws _ form chosen drawn = drawn
