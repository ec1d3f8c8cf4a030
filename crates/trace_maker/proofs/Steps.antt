-- One line more, and one step of the generator more.
use Rattle.std.proofs.Common.{◌≡◌, ℕ, suc, ◌+◌, ◌/◌, ◌^◌, List, [], ◌∷◌, ◌++◌, map, refl, sym, ap, subst, ◌∙◌, append_assoc, arith}
use Rattle.std.specs.List.{range_with_len}
use Rattle.std.proofs.lemmas.List.{append-nil}
use Rattle.std.proofs.lemmas.List.Concat.{flat_map-append}
use Rattle.std.proofs.lemmas.List.FromFn.{map-range_with_len_more}
use Rattle.trace_text.specs.declared.line.Line.{Line}
use Rattle.trace_text.specs.declared.line.Line.TheVariants.{Flow}
use Rattle.trace_text.specs.Writing.{written}
use Rattle.trace_maker.specs.Generator.{next, after, value}
use Rattle.trace_maker.specs.Made.{station, chosen, head, stations, choices, text_of, made}

pub after_more : (x k : ℕ) → after x (k + 1) ≡ next (after x k)
after_more x k = let e : k + 1 ≡ suc k = omega arith in rw e refl

-- what the generator gave where it stood behind so many steps
pub value_more : (x k old new v : ℕ) → old ≡ after x k → new ≡ next old → v ≡ new / 2 ^ 33 → v ≡ value x (k + 1)
value_more x k old new v stood steps gave = gave ∙ ap (λ s. s / 2 ^ 33) (steps ∙ ap next stood ∙ sym (after_more x k))

pub state_more : (x k old new : ℕ) → old ≡ after x k → new ≡ next old → new ≡ after x (k + 1)
state_more x k old new stood steps = steps ∙ ap next stood ∙ sym (after_more x k)

no_more : (xs : List ℕ) → xs ++ [] ≡ xs
no_more xs = append-nil xs

text_of-more : (f : ℕ → Line) (k : ℕ) → text_of (map f (range_with_len 0 (k + 1))) ≡ text_of (map f (range_with_len 0 k)) ++ (written (f k) ++ 10 ∷ [])
text_of-more f k =
    ap text_of (map-range_with_len_more f 0 k k (omega arith))
    ∙ flat_map-append (λ line. written line ++ 10 ∷ []) (map f (range_with_len 0 k)) (f k ∷ [])
    ∙ ap (λ text. text_of (map f (range_with_len 0 k)) ++ text) (no_more (written (f k) ++ 10 ∷ []))

pub line_more : (f : ℕ → Line) (k : ℕ) (line : Line) (old now new : List ℕ) → now ≡ old ++ text_of (map f (range_with_len 0 k)) → line ≡ f k
    → new ≡ now ++ (written line ++ 10 ∷ []) → new ≡ old ++ text_of (map f (range_with_len 0 (k + 1)))
line_more f k line old now new so_far same e =
    e ∙ ap (λ text. text ++ (written line ++ 10 ∷ [])) so_far
    ∙ append_assoc old (text_of (map f (range_with_len 0 k))) (written line ++ 10 ∷ [])
    ∙ ap (λ text. old ++ text) (ap (λ l. text_of (map f (range_with_len 0 k)) ++ (written l ++ 10 ∷ [])) same ∙ sym (text_of-more f k))

-- lines behind lines
grown : (old now new : List ℕ) (lines more : List Line) → now ≡ old ++ text_of lines → new ≡ now ++ text_of more → new ≡ old ++ text_of (lines ++ more)
grown old now new lines more so_far e =
    e ∙ ap (λ text. text ++ text_of more) so_far
    ∙ append_assoc old (text_of lines) (text_of more)
    ∙ ap (λ text. old ++ text) (sym (flat_map-append (λ line. written line ++ 10 ∷ []) lines more))

one_line : (line : Line) (now new : List ℕ) → new ≡ now ++ (written line ++ 10 ∷ []) → new ≡ now ++ text_of (line ∷ [])
one_line line now new e = e ∙ ap (λ text. now ++ text) (sym (no_more (written line ++ 10 ∷ [])))

-- the parts of the text, one behind the other
pub made_of : (number start : ℕ) (old a b d e new : List ℕ) (state : ℕ) → start ≡ number → state ≡ after start 6 → a ≡ old ++ text_of head → b ≡ a ++ text_of (stations start)
    → d ≡ b ++ (written (Flow 40) ++ 10 ∷ []) → e ≡ d ++ text_of (choices state) → new ≡ e ++ (written (Flow 100) ++ 10 ∷ []) → new ≡ old ++ made number
unfolding made
made_of number start old a b d e new state same steps pa pb pd pe pn =
    let behind : state ≡ after number 6 = steps ∙ ap (λ n. after n 6) same in
    let choice : e ≡ d ++ text_of (choices (after number 6)) = pe ∙ ap (λ s. d ++ text_of (choices s)) behind in
    let six : b ≡ a ++ text_of (stations number) = pb ∙ ap (λ n. a ++ text_of (stations n)) same in
    let second = grown old a b head (stations number) pa six in
    let third = grown old b d (head ++ stations number) (Flow 40 ∷ []) second (one_line (Flow 40) b d pd) in
    let fourth = grown old d e (head ++ stations number ++ Flow 40 ∷ []) (choices (after number 6)) third choice in
    grown old e new (head ++ stations number ++ Flow 40 ∷ [] ++ choices (after number 6)) (Flow 100 ∷ []) fourth (one_line (Flow 100) e new pn)

-- all lines of a loop
pub stations_end : (x k : ℕ) (old now : List ℕ) → k ≡ 6 → now ≡ old ++ text_of (map (λ i. station (i + 1) (value x (i + 1))) (range_with_len 0 k)) → now ≡ old ++ text_of (stations x)
unfolding stations
stations_end x k old now end so_far =
    subst (λ n. now ≡ old ++ text_of (map (λ i. station (i + 1) (value x (i + 1))) (range_with_len 0 n))) end so_far

pub choices_end : (x k : ℕ) (old now : List ℕ) → k ≡ 300 → now ≡ old ++ text_of (map (λ i. chosen (value x (i + 1))) (range_with_len 0 k)) → now ≡ old ++ text_of (choices x)
unfolding choices
choices_end x k old now end so_far =
    subst (λ n. now ≡ old ++ text_of (map (λ i. chosen (value x (i + 1))) (range_with_len 0 n))) end so_far
