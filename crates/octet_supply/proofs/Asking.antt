-- More is asked for, and some is given out.
use Rattle.std.proofs.Common.{◌≡◌, ◌⊎◌, ℕ, ◌<◌, ◌≤◌, Bool, true, false, List, [], ◌∷◌, ◌++◌, length, take, drop, Option, Some, None, Result, Ok, Err, refl, sym, ap, ◌∙◌, subst, append_assoc, arith, inl, inr}
use Rattle.std.proofs.lemmas.List.{append-nil, take-append-drop, take_all}
use Rattle.lan_base.specs.declared.source.ReadEnd.{ReadEnd}
use Rattle.lan_base.specs.declared.source.ReadEnd.TheVariants.{Limit, Failed, Memory}
use Rattle.text_lines.specs.Turns.{octets_of}
use Rattle.octet_supply.specs.Supplying.{Held}
use Rattle.octet_supply.specs.Asking.{Asked, LastAsked, AsksInTurn}
use Rattle.octet_supply.specs.inside.Once.{Holds, AsksOnce, Rests, AsksFirst, HasAsked, NextAsked}

-- ---- once

-- what was read was held so
pub held-once : {S : Type 0} (Gave : S → Option (List ℕ) → S → Type 0) (old new : Held) (piece : List ℕ)
    (s s_then : S) (r : Result Bool ReadEnd) → Gave s (Some piece) s_then → Holds old piece new r
    → AsksOnce Gave old new s s_then r
held-once Gave old new piece s s_then (Ok true) gave h = (piece, gave, h)
held-once Gave old new piece s s_then (Ok false) gave h =
    subst (λ (l : List ℕ). Gave s (Some l) s_then) h gave
held-once Gave old new piece s s_then (Err Limit) gave h = (piece, gave)
held-once Gave old new piece s s_then (Err Memory) gave h = (piece, gave)
held-once Gave old new piece s s_then (Err Failed) gave h = absurd h

-- ---- in turn

octets-add : (pieces : List (List ℕ)) (piece : List ℕ)
    → octets_of (pieces ++ piece ∷ []) ≡ octets_of pieces ++ piece
octets-add [] piece = append-nil piece
octets-add (first ∷ pieces) piece =
    ap (λ (l : List ℕ). first ++ l) (octets-add pieces piece)
    ∙ sym (append_assoc first (octets_of pieces) piece)

module _ {S : Type 0} (Gave : S → Option (List ℕ) → S → Type 0) (IsShort : List ℕ → Type 0) where
  add-asked : (had : List ℕ) (pieces : List (List ℕ)) (piece : List ℕ) (s a b : S)
      → Asked Gave IsShort had pieces s a → IsShort (had ++ octets_of pieces) → 0 < length piece
      → Gave a (Some piece) b → Asked Gave IsShort had (pieces ++ piece ∷ []) s b
  add-asked had [] [] s a b h short some gave = absurd (omega (arith, some))
  add-asked had [] (x ∷ xs) s a b h short some gave = (
    subst (λ (l : List ℕ). IsShort l) (append-nil had) short,
    (b, subst (λ (z : S). Gave z (Some (x ∷ xs)) b) h gave, refl),
  )
  add-asked had ([] ∷ pieces) piece s a b h short some gave = absurd h
  add-asked had ((y ∷ ys) ∷ pieces) piece s a b h short some gave = (
    h.0,
    (
      h.1.0,
      h.1.1,
      add-asked (had ++ y ∷ ys) pieces piece h.1.0 a b h.1.2
          (subst (λ (l : List ℕ). IsShort l) (sym (append_assoc had (y ∷ ys) (octets_of pieces))) short)
          some gave,
    ),
  )

  -- since a call began with these octets held these were given out, and what was held and given is that and
  -- what is held
  pub record Had (held : List ℕ) (s : S) (out : List ℕ) (now : Held) (a : S) : Type 0 where
    pub pieces : List (List ℕ)
    pub asked : Asked Gave IsShort held pieces s a
    pub whole : now.past ≡ false → held ++ octets_of pieces ≡ out ++ now.octets

  pub had-none : (now : Held) (s : S) → Had now.octets s [] now s
  had-none now s =
      record { pieces = []; asked = refl; whole = λ calm. append-nil now.octets }

  short-of : (held : List ℕ) (s : S) (out : List ℕ) (now : Held) (a : S) → (h : Had held s out now a)
      → now.past ≡ false → IsShort (out ++ now.octets) → IsShort (held ++ octets_of h.pieces)
  short-of held s out now a h calm short =
      subst (λ (l : List ℕ). IsShort l) (sym (h.whole calm)) short

  -- a piece more
  pub had-asked : (held : List ℕ) (s : S) (out : List ℕ) (now next : Held) (a b : S)
      → Had held s out now a → now.past ≡ false → IsShort (out ++ now.octets)
      → AsksOnce Gave now next a b (Ok true) → Had held s out next b
  had-asked held s out now next a b h calm short once =
      let piece = once.0 in
      let holds = once.2 in record {
        pieces = h.pieces ++ piece ∷ [];
        asked = add-asked held h.pieces piece s a b h.asked (short-of held s out now a h calm short) holds.0
            once.1;
        whole = λ still.
            ap (λ (l : List ℕ). held ++ l) (octets-add h.pieces piece)
            ∙ sym (append_assoc held (octets_of h.pieces) piece)
            ∙ ap (λ (l : List ℕ). l ++ piece) (h.whole calm)
            ∙ append_assoc out now.octets piece
            ∙ ap (λ (l : List ℕ). out ++ l) (sym (holds.1 still));
      }

  -- some is given out
  pub had-given : (held : List ℕ) (s : S) (out : List ℕ) (now next : Held) (n : ℕ) (a : S)
      → Had held s out now a → next.octets ≡ drop n now.octets → next.past ≡ now.past
      → Had held s (out ++ take n now.octets) next a
  had-given held s out now next n a h rest past = record {
    pieces = h.pieces;
    asked = h.asked;
    whole = λ calm.
        h.whole (sym past ∙ calm)
        ∙ ap (λ (l : List ℕ). out ++ l) (sym (take-append-drop n now.octets))
        ∙ sym (append_assoc out (take n now.octets) (drop n now.octets))
        ∙ ap (λ (l : List ℕ). (out ++ take n now.octets) ++ l) (sym rest);
  }

  -- ---- ends

  -- a source gave this last, which is not held
  untaken : (held : List ℕ) (s : S) (pieces : List (List ℕ)) (piece : List ℕ) (a b : S)
      → Asked Gave IsShort held pieces s a → IsShort (held ++ octets_of pieces) → Gave a (Some piece) b
      → (more : List (List ℕ)) × ((between : S) × Asked Gave IsShort held more s between
      × ((b ≡ between) ⊎ (IsShort (held ++ octets_of more) × Gave between (Some []) b)))
  untaken held s pieces [] a b asked short gave = (pieces, (a, asked, inr (short, gave)))
  untaken held s pieces (x ∷ xs) a b asked short gave = (
    pieces ++ (x ∷ xs) ∷ [],
    (b, add-asked held pieces (x ∷ xs) s a b asked short (omega arith) gave, inl refl),
  )

  module _ {X : Type 0} where
    pub had-ok : (held : List ℕ) (s : S) (out : List ℕ) (now : Held) (a : S) (x : X)
        → Had held s out now a → AsksInTurn Gave IsShort held s a (Ok x)
    had-ok held s out now a x h = record { pieces = h.pieces; between = a; asked = h.asked; last = inl refl }

    pub had-memory : (held : List ℕ) (s : S) (out : List ℕ) (now : Held) (a : S)
        → Had held s out now a → AsksInTurn {X = X} Gave IsShort held s a (Err Memory)
    had-memory held s out now a h =
        record { pieces = h.pieces; between = a; asked = h.asked; last = inl refl }

    pub had-limit : (held : List ℕ) (s : S) (out : List ℕ) (now : Held) (a : S)
        → Had held s out now a → AsksInTurn {X = X} Gave IsShort held s a (Err Limit)
    had-limit held s out now a h =
        record { pieces = h.pieces; between = a; asked = h.asked; last = inl refl }

    -- by asking once, where that was too little
    pub once-end : (held : List ℕ) (s : S) (out : List ℕ) (now next : Held) (a b : S) (x : X)
        → Had held s out now a → now.past ≡ false → IsShort (out ++ now.octets)
        → AsksOnce Gave now next a b (Ok false) → AsksInTurn Gave IsShort held s b (Ok x)
    once-end held s out now next a b x h calm short once = record {
      pieces = h.pieces;
      between = a;
      asked = h.asked;
      last = inr (short-of held s out now a h calm short, once);
    }

    pub once-err : (held : List ℕ) (s : S) (out : List ℕ) (now next : Held) (a b : S) (e : ReadEnd)
        → Had held s out now a → now.past ≡ false → IsShort (out ++ now.octets)
        → AsksOnce Gave now next a b (Err e) → AsksInTurn {X = X} Gave IsShort held s b (Err e)
    once-err held s out now next a b Limit h calm short once =
        let u = untaken held s h.pieces once.0 a b h.asked (short-of held s out now a h calm short) once.1 in
        record { pieces = u.0; between = u.1.0; asked = u.1.1; last = u.1.2 }
    once-err held s out now next a b Memory h calm short once =
        let u = untaken held s h.pieces once.0 a b h.asked (short-of held s out now a h calm short) once.1 in
        record { pieces = u.0; between = u.1.0; asked = u.1.1; last = u.1.2 }
    once-err held s out now next a b Failed h calm short once = record {
      pieces = h.pieces;
      between = a;
      asked = h.asked;
      last = (short-of held s out now a h calm short, once);
    }

  -- ---- where octets are to be held first

  none-held : (out : List ℕ) (now : Held) → now.octets ≡ [] → IsShort out → IsShort (out ++ now.octets)
  none-held out now none short =
      subst (λ (l : List ℕ). IsShort l)
      (sym (append-nil out) ∙ ap (λ (l : List ℕ). out ++ l) (sym none)) short

  pub first-some : (held : List ℕ) (s : S) (out : List ℕ) (now next : Held) (a b : S)
      → Had held s out now a → IsShort out → HasAsked Gave now next a b (Ok true) → Had held s out next b
  first-some held s out now next a b h short (inl rests) =
      subst (λ (z : S). Had held s out next z) (sym rests.source)
      (subst (λ (n : Held). Had held s out n a) (sym rests.same) h)
  first-some held s out now next a b h short (inr first) =
      had-asked held s out now next a b h first.calm (none-held out now first.none short) first.once

  module _ {X : Type 0} where
    pub first-end : (held : List ℕ) (s : S) (out : List ℕ) (now next : Held) (a b : S) (x : X)
        → Had held s out now a → IsShort out → HasAsked Gave now next a b (Ok false)
        → AsksInTurn Gave IsShort held s b (Ok x)
    first-end held s out now next a b x h short (inl rests) =
        absurd (elim rests.answer [ inl is ↦ cc is | inr is ↦ cc is ])
    first-end held s out now next a b x h short (inr first) =
        once-end held s out now next a b x h first.calm (none-held out now first.none short) first.once

    pub first-err : (held : List ℕ) (s : S) (out : List ℕ) (now next : Held) (a b : S) (e : ReadEnd)
        → Had held s out now a → IsShort out → HasAsked Gave now next a b (Err e)
        → AsksInTurn {X = X} Gave IsShort held s b (Err e)
    first-err held s out now next a b e h short (inl rests) =
        let is : e ≡ Limit = elim rests.answer [ inl is ↦ absurd (cc is) | inr is ↦ cc is ] in
        subst (λ (z : S). AsksInTurn {X = X} Gave IsShort held s z (Err e)) (sym rests.source)
        (subst (λ (e : ReadEnd). AsksInTurn {X = X} Gave IsShort held s a (Err e)) (sym is)
        (had-limit held s out now a h))
    first-err held s out now next a b e h short (inr first) =
        once-err held s out now next a b e h first.calm (none-held out now first.none short) first.once

  -- ---- one octet

  -- an octet more was given out
  pub next-some : (held : List ℕ) (s : S) (out : List ℕ) (octet : ℕ) (now next : Held) (a b : S)
      → Had held s out now a → IsShort out → NextAsked Gave now next a b (Ok (Some octet))
      → Had held s (out ++ octet ∷ []) next b
  next-some held s out octet now next a b h short n =
      let first = first-some held s out now n.0 a b h short n.1 in
      subst (λ (l : List ℕ). Had held s (out ++ l) next b) n.2
      (had-given held s out n.0 next 1 b first n.3 n.4)

  module _ {X : Type 0} where
    pub next-end : (held : List ℕ) (s : S) (out : List ℕ) (now next : Held) (a b : S) (x : X)
        → Had held s out now a → IsShort out → NextAsked Gave now next a b (Ok None)
        → AsksInTurn Gave IsShort held s b (Ok x)
    next-end held s out now next a b x h short n = first-end held s out now next a b x h short n

    pub next-err : (held : List ℕ) (s : S) (out : List ℕ) (now next : Held) (a b : S) (e : ReadEnd)
        → Had held s out now a → IsShort out → NextAsked Gave now next a b (Err e)
        → AsksInTurn {X = X} Gave IsShort held s b (Err e)
    next-err held s out now next a b e h short n = first-err held s out now next a b e h short n
