-- How a supply stands for a text.
use Rattle.std.proofs.Common.{◌≡◌, ℕ, zero, suc, ◌+◌, ◌-◌, ◌<◌, ◌≤◌, Bool, true, false, List, [], ◌∷◌, ◌++◌, length, take, drop, Option, Some, None, Result, Ok, Err, refl, sym, ap, ◌∙◌, subst, append_assoc, length-append, arith, inl, inr}
use Rattle.std.proofs.lemmas.List.{append-nil, length-take-le, take-append-drop, take-append-le, take_all}
use Rattle.std.proofs.lemmas.Bool.{ltb-true, ltb-false}
use Rattle.std.proofs.lemmas.List.Elements.{All-push}
use Rattle.std.specs.Prelude.{◌≢◌, All, min, nat_lt}
use Rattle.lan_base.specs.declared.source.ReadEnd.{ReadEnd}
use Rattle.lan_base.specs.declared.source.ReadEnd.TheVariants.{Limit, Failed, Memory}
use Rattle.text_lines.specs.Reading.{most_at_once}
use Rattle.octet_supply.specs.declared.supply.LineEnd.TheVariants.{Feed, Most, Source}
use Rattle.octet_supply.specs.Supplying.{Held, Stands, StandsBy, IsAtEnd, IsPast, IsTaken, IsInLine, Fills, FillsMore, GivesOne, Passes, Peeks, Takes, TakesLine}

-- the front of a list within a length that is behind a part
pub take-behind : (n : ℕ) (a b : List ℕ) → length a ≤ n → take n (a ++ b) ≡ a ++ take (n - length a) b
take-behind n [] b few = let e : n ≡ n - 0 = omega arith in ap (λ (k : ℕ). take k b) e
take-behind zero (x ∷ a) b few = absurd (omega (arith, few))
take-behind (suc n) (x ∷ a) b few =
    let e : n - length a ≡ suc n - length (x ∷ a) = omega arith in
    ap (λ (l : List ℕ). x ∷ l) (take-behind n a b (omega (arith, few)))
    ∙ ap (λ (k : ℕ). x ∷ (a ++ take k b)) e

-- ---- some are given out

given-by : (limit : ℕ) (b : Bool) (text given octets more held : List ℕ) (n m room : ℕ) (rest : List ℕ)
    → octets ≡ more ++ held
    → StandsBy limit b text given (record { octets = octets; given = n; room = room; past = b }) rest
    → StandsBy limit b text (given ++ more) (record { octets = held; given = m; room = room; past = b }) rest
given-by limit false text given octets more held n m room rest parts by = (
  by.0 ∙ ap (λ (l : List ℕ). given ++ (l ++ rest)) parts
      ∙ ap (λ (l : List ℕ). given ++ l) (append_assoc more held rest)
      ∙ sym (append_assoc given more (held ++ rest)),
  let whole = ap length parts ∙ length-append more held in
      let front = length-append given more in
      omega (arith, by.1, whole, front),
)
given-by limit true text given octets more held n m room rest parts by = (
  by.0,
  by.1 ∙ ap (λ (l : List ℕ). given ++ l) parts ∙ sym (append_assoc given more held),
)

-- what was taken is parted anew
parted : (given octets behind : List ℕ) (n : ℕ)
    → given ++ (octets ++ behind) ≡ (given ++ take n octets) ++ (drop n octets ++ behind)
parted given octets behind n =
    ap (λ (l : List ℕ). given ++ (l ++ behind)) (sym (take-append-drop n octets))
    ∙ ap (λ (l : List ℕ). given ++ l) (append_assoc (take n octets) (drop n octets) behind)
    ∙ sym (append_assoc given (take n octets) (drop n octets ++ behind))

parts-count : (octets : List ℕ) (n : ℕ) → length (take n octets) + length (drop n octets) ≡ length octets
parts-count octets n =
    sym (length-append (take n octets) (drop n octets)) ∙ ap length (take-append-drop n octets)

-- so many of what is held
pub given-out : (limit : ℕ) (text given : List ℕ) (old new : Held) (left : Option (List ℕ)) (n : ℕ)
    → n ≤ length old.octets
    → new ≡ record { octets = drop n old.octets; given = old.given + n; room = old.room; past = old.past }
    → Stands limit text given old left → Stands limit text (given ++ take n old.octets) new left
given-out limit text given old new left n few is s =
    subst (λ (h : Held). Stands limit text (given ++ take n old.octets) h left) (sym is) (record {
      rest = s.rest;
      told = s.told;
      count = let c = s.count in
          let l = length-append given (take n old.octets) in
          let t = length-take-le n old.octets few in
          omega (arith, c, l, t);
      by = given-by limit old.past text given old.octets (take n old.octets) (drop n old.octets) old.given
          (old.given + n) old.room s.rest (sym (take-append-drop n old.octets)) s.by;
      lost = s.lost;
      taken = s.taken ∙ parted given old.octets (s.lost ++ s.rest) n;
      few = let p = parts-count old.octets n in let f = s.few in omega (arith, p, f);
    })

-- ---- a supply that took nothing past the limit

-- of a text this front was taken within the limit, and the rest is left
pub record IsFront (limit : ℕ) (text front : List ℕ) (room : ℕ) (rest : List ℕ) : Type 0 where
  pub whole : text ≡ front ++ rest
  pub counted : length front + room ≡ limit

front-by : (limit : ℕ) (b : Bool) (text given octets : List ℕ) (n room : ℕ) (rest : List ℕ) → b ≡ false
    → StandsBy limit b text given (record { octets = octets; given = n; room = room; past = b }) rest
    → IsFront limit text (given ++ octets) room rest
front-by limit false text given octets n room rest calm by = record {
  whole = by.0 ∙ sym (append_assoc given octets rest);
  counted = let l = length-append given octets in let e = by.1 in omega (arith, l, e);
}
front-by limit true text given octets n room rest calm by = absurd (cc calm)

some-same : (a b : List ℕ) → Some a ≡ Some b → a ≡ b
some-same a b e = ap (λ (o : Option (List ℕ)). or_nothing o) e
  where
    or_nothing : Option (List ℕ) → List ℕ
    or_nothing None = []
    or_nothing (Some l) = l

pub front-of : (limit : ℕ) (text given : List ℕ) (h : Held) (rest : List ℕ) → h.past ≡ false
    → Stands limit text given h (Some rest) → IsFront limit text (given ++ h.octets) h.room rest
front-of limit text given h rest calm s =
    subst (λ (l : List ℕ). IsFront limit text (given ++ h.octets) h.room l) (sym (some-same rest s.rest s.told))
    (front-by limit h.past text given h.octets h.given h.room s.rest calm s.by)

-- octets that were read are held
held-all : (limit : ℕ) (text given octets rest : List ℕ) (old new : Held) → old.given ≡ length given
    → IsFront limit text (given ++ old.octets) old.room (octets ++ rest)
    → length octets ≤ old.room → length old.octets + length octets ≤ most_at_once
    → new ≡ record { octets = old.octets ++ octets; given = old.given; room = old.room - length octets; past = false }
    → Stands limit text given new (Some rest)
held-all limit text given octets rest old new c f few near is =
    let whole = f.whole ∙ append_assoc given old.octets (octets ++ rest)
    ∙ ap (λ (l : List ℕ). given ++ l) (sym (append_assoc old.octets octets rest)) in
    let long = length-append old.octets octets in
    subst (λ (h : Held). Stands limit text given h (Some rest)) (sym is) (record {
      rest = rest;
      told = refl;
      count = c;
      by = (whole, let l = length-append given old.octets in let r = f.counted in omega (arith, l, long, r, few));
      lost = [];
      taken = whole;
      few = omega (arith, long, near);
    })

longer : (limit : ℕ) (text front octets rest : List ℕ) (room : ℕ)
    → IsFront limit text front room (octets ++ rest) → room < length octets
    → (limit < length text) × (take limit text ≡ front ++ take room octets)
longer limit text front octets rest room f past =
    let long = ap length f.whole ∙ length-append front (octets ++ rest) in
    let both = length-append octets rest in
    let r = f.counted in
    let few : length front ≤ limit = omega (arith, r) in
    let same : limit - length front ≡ room = omega (arith, r) in (
      omega (arith, long, both, r, past),
      ap (take limit) f.whole ∙ take-behind limit front (octets ++ rest) few
          ∙ ap (λ (k : ℕ). front ++ take k (octets ++ rest)) same
          ∙ ap (λ (l : List ℕ). front ++ l) (take-append-le room octets rest (omega (arith, past))),
    )

-- as far as there is room
held-some : (limit : ℕ) (text given octets rest : List ℕ) (old new : Held) → old.given ≡ length given
    → IsFront limit text (given ++ old.octets) old.room (octets ++ rest)
    → old.room < length octets → length old.octets + length octets ≤ most_at_once
    → new ≡ record { octets = old.octets ++ take old.room octets; given = old.given; room = 0; past = true }
    → Stands limit text given new (Some rest)
held-some limit text given octets rest old new c f past near is =
    let some = take old.room octets in
    let both = longer limit text (given ++ old.octets) octets rest old.room f past in
    subst (λ (h : Held). Stands limit text given h (Some rest)) (sym is) (record {
      rest = rest;
      told = refl;
      count = c;
      by = (both.0, both.1 ∙ append_assoc given old.octets some);
      lost = drop old.room octets;
      taken = f.whole ∙ parted (given ++ old.octets) octets rest old.room
          ∙ ap (λ (l : List ℕ). l ++ (drop old.room octets ++ rest)) (append_assoc given old.octets some)
          ∙ append_assoc given (old.octets ++ some) (drop old.room octets ++ rest);
      few = let p = parts-count octets old.room in let l = length-append old.octets some in
          omega (arith, p, l, near);
    })

-- no room is left, and more came
pub past-none : (limit : ℕ) (text front octets rest : List ℕ) (room : ℕ)
    → IsFront limit text front room (octets ++ rest) → room ≡ 0 → 1 ≤ length octets → IsPast limit text front
past-none limit text front octets rest room f none some =
    let both = longer limit text front octets rest room f (omega (arith, none, some)) in
    record {
      longer = both.0;
      front = both.1 ∙ ap (λ (k : ℕ). front ++ take k octets) none ∙ append-nil front;
    }

-- nothing came
at-end : (limit : ℕ) (text front rest : List ℕ) (room : ℕ) → IsFront limit text front room rest → rest ≡ []
    → IsAtEnd limit text front (Some rest)
at-end limit text front rest room f none =
    let all : text ≡ front = f.whole ∙ ap (λ (l : List ℕ). front ++ l) none ∙ append-nil front in
    let r = f.counted in let l = ap length all in
    record {
      all = all;
      within = omega (arith, l, r);
      end = ap (λ (l : List ℕ). Some l) none;
    }

-- what is ahead of what was given, within the limit: what is held, and what is behind it
pub record IsBehind (limit : ℕ) (text given held : List ℕ) : Type 0 where
  pub behind : List ℕ
  pub front : take limit text ≡ given ++ (held ++ behind)

ahead-by : (limit : ℕ) (b : Bool) (text given : List ℕ) (h : Held) (rest : List ℕ)
    → StandsBy limit b text given h rest → IsBehind limit text given h.octets
ahead-by limit false text given h rest by =
    let f = front-by limit false text given h.octets h.given h.room rest refl by in
    let c = f.counted in
    let behind = take (limit - length (given ++ h.octets)) rest in
    record {
      behind = behind;
      front = ap (take limit) f.whole
          ∙ take-behind limit (given ++ h.octets) rest (omega (arith, c))
          ∙ append_assoc given h.octets behind;
    }
ahead-by limit true text given h rest by = record {
  behind = [];
  front = by.1 ∙ ap (λ (l : List ℕ). given ++ l) (sym (append-nil h.octets));
}

pub within-held : (limit : ℕ) (text given : List ℕ) (h : Held) (left : Option (List ℕ))
    → Stands limit text given h left → IsBehind limit text given h.octets
within-held limit text given h left s = ahead-by limit h.past text given h s.rest s.by

-- what is ahead of what was given
pub record IsAhead (limit : ℕ) (text given : List ℕ) : Type 0 where
  pub ahead : List ℕ
  pub front : take limit text ≡ given ++ ahead

pub within : (limit : ℕ) (text given : List ℕ) (h : Held) (left : Option (List ℕ))
    → Stands limit text given h left → IsAhead limit text given
within limit text given h left s =
    let a = within-held limit text given h left s in record { ahead = h.octets ++ a.behind; front = a.front }

-- past the limit no more is to come
pub past-all : (limit : ℕ) (text given : List ℕ) (h : Held) (left : Option (List ℕ)) → h.past ≡ true
    → Stands limit text given h left → IsPast limit text (given ++ h.octets)
past-all limit text given h left past s = go h.past past s.by
  where
    go : (b : Bool) → b ≡ true → StandsBy limit b text given h s.rest → IsPast limit text (given ++ h.octets)
    go true p by = record { longer = by.0; front = by.1 }
    go false p by = absurd (cc p)

-- a source failed
pub failed : (limit : ℕ) (text given : List ℕ) (h : Held) (left : Option (List ℕ)) → h.past ≡ false
    → Stands limit text given h left → IsTaken limit text (given ++ h.octets) left
failed limit text given h left calm s =
    let f = front-by limit h.past text given h.octets h.given h.room s.rest calm s.by in
    let r = f.counted in
    record { rest = s.rest; told = s.told; whole = f.whole; within = omega (arith, r) }

-- ---- at first

-- nothing was given out of a text
pub stands-new : (limit : ℕ) (text : List ℕ) (left : Option (List ℕ)) → left ≡ Some text
    → Stands limit text [] (record { octets = []; given = 0; room = limit; past = false }) left
stands-new limit text left told = record {
  rest = text;
  told = told;
  count = refl;
  by = (refl, omega arith);
  lost = [];
  taken = refl;
  few = omega arith;
}

-- ---- taking so many

pub record HasTaken (limit : ℕ) (text given : List ℕ) (count wanted : ℕ) (into now : List ℕ) (h : Held)
    (left : Option (List ℕ)) : Type 0 where
  pub more : List ℕ
  pub appended : now ≡ into ++ more
  pub counted : length more + wanted ≡ count
  pub stands : Stands limit text (given ++ more) h left

pub taken-none : (limit : ℕ) (text given : List ℕ) (count : ℕ) (into : List ℕ) (h : Held) (left : Option (List ℕ))
    → Stands limit text given h left → HasTaken limit text given count count into into h left
taken-none limit text given count into h left s = record {
  more = [];
  appended = sym (append-nil into);
  counted = omega arith;
  stands = subst (λ (l : List ℕ). Stands limit text l h left) (sym (append-nil given)) s;
}

pub taken-more : (limit : ℕ) (text given : List ℕ) (count wanted wanted_then n : ℕ) (into now then : List ℕ)
    (h : Held) (left left_then : Option (List ℕ)) (middle new : Held)
    → (t : HasTaken limit text given count wanted into now h left)
    → Stands limit text (given ++ t.more) middle left_then → n ≤ length middle.octets → n ≤ wanted
    → wanted_then ≡ wanted - n → then ≡ now ++ take n middle.octets
    → new ≡ record { octets = drop n middle.octets; given = middle.given + n; room = middle.room; past = middle.past }
    → HasTaken limit text given count wanted_then into then new left_then
taken-more limit text given count wanted wanted_then n into now then h left left_then middle new t s few most less appended is =
    let piece = take n middle.octets in
    record {
      more = t.more ++ piece;
      appended = appended ∙ ap (λ (l : List ℕ). l ++ piece) t.appended ∙ append_assoc into t.more piece;
      counted = let c = t.counted in let l = length-append t.more piece in
          let p = length-take-le n middle.octets few in omega (arith, c, l, p, most, less);
      stands = subst (λ (l : List ℕ). Stands limit text l new left_then) (append_assoc given t.more piece)
          (given-out limit text (given ++ t.more) middle new left_then n few is s);
    }

pub taken-all : (limit : ℕ) (text given : List ℕ) (count wanted : ℕ) (into now : List ℕ) (h : Held)
    (left : Option (List ℕ)) → HasTaken limit text given count wanted into now h left → wanted ≤ 0
    → Takes limit text given count into now h left (Ok tt)
taken-all limit text given count wanted into now h left t none =
    (t.more, t.appended, (t.stands, inl (let c = t.counted in omega (arith, c, none))))

pub taken-end : (limit : ℕ) (text given : List ℕ) (count wanted : ℕ) (into now : List ℕ) (h new : Held)
    (left left_then : Option (List ℕ)) → (t : HasTaken limit text given count wanted into now h left) → 0 < wanted
    → Fills limit text (given ++ t.more) new left_then (Ok false)
    → Takes limit text given count into now new left_then (Ok tt)
taken-end limit text given count wanted into now h new left left_then t some end =
    (t.more, t.appended, (end.0, inr (let c = t.counted in omega (arith, c, some), end.1)))

pub taken-err : (limit : ℕ) (text given : List ℕ) (count wanted : ℕ) (into now : List ℕ) (h new : Held)
    (left left_then : Option (List ℕ)) (e : ReadEnd)
    → (t : HasTaken limit text given count wanted into now h left) → 0 < wanted
    → Fills limit text (given ++ t.more) new left_then (Err e)
    → Takes limit text given count into now new left_then (Err e)
taken-err limit text given count wanted into now h new left left_then Limit t some f =
    (t.more, t.appended, (let c = t.counted in omega (arith, c, some)), f)
taken-err limit text given count wanted into now h new left left_then Failed t some f =
    (t.more, t.appended, (let c = t.counted in omega (arith, c, some)), f)
taken-err limit text given count wanted into now h new left left_then Memory t some f = tt

-- ---- passing over so many

pub passes : (limit : ℕ) (text given : List ℕ) (count : ℕ) (then : List ℕ) (new : Held)
    (left : Option (List ℕ)) (r : Result (Unit {0}) ReadEnd)
    → Takes limit text given count [] then new left r → Passes limit text given count new left r
passes limit text given count then new left (Ok done) t = (t.0, t.2)
passes limit text given count then new left (Err Limit) t = (t.0, t.2, t.3)
passes limit text given count then new left (Err Failed) t = (t.0, t.2, t.3)
passes limit text given count then new left (Err Memory) t = tt

-- ---- one octet, and a line

pub record HasLine (limit : ℕ) (text given : List ℕ) (most room : ℕ) (into now : List ℕ) (h : Held)
    (left : Option (List ℕ)) : Type 0 where
  pub line : List ℕ
  pub appended : now ≡ into ++ line
  pub none : All (λ o. o ≢ 10) line
  pub counted : length line + room ≡ most
  pub stands : Stands limit text (given ++ line) h left

pub line-more : (limit : ℕ) (text given : List ℕ) (most room room_then octet : ℕ) (into now then : List ℕ)
    (h new : Held) (left left_then : Option (List ℕ))
    → (t : HasLine limit text given most room into now h left)
    → Stands limit text ((given ++ t.line) ++ octet ∷ []) new left_then → octet ≢ 10 → room ≢ 0
    → room_then ≡ room - 1 → then ≡ now ++ octet ∷ []
    → HasLine limit text given most room_then into then new left_then
line-more limit text given most room room_then octet into now then h new left left_then t s other some less is = record {
  line = t.line ++ octet ∷ [];
  appended = is ∙ ap (λ (l : List ℕ). l ++ octet ∷ []) t.appended ∙ append_assoc into t.line (octet ∷ []);
  none = All-push (λ (o : ℕ). o ≢ 10) t.line octet t.none other;
  counted = let c = t.counted in let l = length-append t.line (octet ∷ []) in omega (arith, c, l, some, less);
  stands = subst (λ (l : List ℕ). Stands limit text l new left_then) (append_assoc given t.line (octet ∷ [])) s;
}

in-line : (limit : ℕ) (text given : List ℕ) (most room : ℕ) (into now : List ℕ) (h : Held) (left : Option (List ℕ))
    → (t : HasLine limit text given most room into now h left) → IsInLine most t.line
in-line limit text given most room into now h left t =
    record { none = t.none; few = let c = t.counted in omega (arith, c) }

pub line-feed : (limit : ℕ) (text given : List ℕ) (most room octet : ℕ) (into now : List ℕ) (h new : Held)
    (left left_then : Option (List ℕ)) → (t : HasLine limit text given most room into now h left)
    → Stands limit text ((given ++ t.line) ++ octet ∷ []) new left_then → octet ≡ 10
    → TakesLine limit text given most into now new left_then (Ok Feed)
line-feed limit text given most room octet into now h new left left_then t s is = (
  t.line,
  t.appended,
  in-line limit text given most room into now h left t,
  subst (λ (l : List ℕ). Stands limit text l new left_then)
      (append_assoc given t.line (octet ∷ []) ∙ ap (λ (o : ℕ). given ++ (t.line ++ o ∷ [])) is) s,
)

pub line-most : (limit : ℕ) (text given : List ℕ) (most room octet : ℕ) (into now : List ℕ) (h new : Held)
    (left left_then : Option (List ℕ)) → (t : HasLine limit text given most room into now h left)
    → Stands limit text ((given ++ t.line) ++ octet ∷ []) new left_then → octet ≢ 10 → room ≡ 0
    → TakesLine limit text given most into now new left_then (Ok Most)
line-most limit text given most room octet into now h new left left_then t s other none = (
  t.line,
  t.appended,
  in-line limit text given most room into now h left t,
  (
    (let c = t.counted in omega (arith, c, none)),
    (
      octet,
      other,
      subst (λ (l : List ℕ). Stands limit text l new left_then) (append_assoc given t.line (octet ∷ [])) s,
    ),
  ),
)

pub line-end : (limit : ℕ) (text given : List ℕ) (most room : ℕ) (into now : List ℕ) (h new : Held)
    (left left_then : Option (List ℕ)) → (t : HasLine limit text given most room into now h left)
    → IsAtEnd limit text (given ++ t.line) left_then
    → TakesLine limit text given most into now new left_then (Ok Source)
line-end limit text given most room into now h new left left_then t end =
    (t.line, t.appended, in-line limit text given most room into now h left t, end)

pub line-err : (limit : ℕ) (text given : List ℕ) (most room : ℕ) (into now : List ℕ) (h new : Held)
    (left left_then : Option (List ℕ)) (e : ReadEnd) → (t : HasLine limit text given most room into now h left)
    → GivesOne limit text (given ++ t.line) new left_then (Err e)
    → TakesLine limit text given most into now new left_then (Err e)
line-err limit text given most room into now h new left left_then Limit t f =
    (t.line, t.appended, in-line limit text given most room into now h left t, f)
line-err limit text given most room into now h new left left_then Failed t f =
    (t.line, t.appended, in-line limit text given most room into now h left t, f)
line-err limit text given most room into now h new left left_then Memory t f = tt

-- ---- looking ahead

pub peeks-all : (limit : ℕ) (text given : List ℕ) (count : ℕ) (h : Held) (left : Option (List ℕ))
    → Stands limit text given h left → count ≤ length h.octets
    → Peeks limit text given count h left (Ok tt)
peeks-all limit text given count h left s enough = (s, inl enough)

pub peeks-short : (limit : ℕ) (text given held : List ℕ) (count : ℕ) (new : Held) (left : Option (List ℕ))
    → FillsMore limit text given held new left (Ok false) → length held < count
    → Peeks limit text given count new left (Ok tt)
peeks-short limit text given held count new left f few = (
  f.0,
  inr (
    (let l = ap length f.1 in omega (arith, l, few)),
    subst (λ (l : List ℕ). IsAtEnd limit text (given ++ l) left) (sym f.1) f.2,
  ),
)

pub peeks-past : (limit : ℕ) (text given : List ℕ) (count : ℕ) (h : Held) (left : Option (List ℕ))
    → Stands limit text given h left → h.past ≡ true → length h.octets < count
    → Peeks limit text given count h left (Err Limit)
peeks-past limit text given count h left s past few = (s, (few, past-all limit text given h left past s))

pub peeks-err : (limit : ℕ) (text given held : List ℕ) (count : ℕ) (new : Held) (left : Option (List ℕ))
    (e : ReadEnd) → FillsMore limit text given held new left (Err e) → length held < count
    → Peeks limit text given count new left (Err e)
peeks-err limit text given held count new left Limit f few = (
  f.0,
  (
    (let l = ap length f.1 in omega (arith, l, few)),
    subst (λ (l : List ℕ). IsPast limit text (given ++ l)) (sym f.1) f.2,
  ),
)
peeks-err limit text given held count new left Failed f few = (
  f.0,
  (
    (let l = ap length f.1 in omega (arith, l, few)),
    subst (λ (l : List ℕ). IsTaken limit text (given ++ l) left) (sym f.1) f.2,
  ),
)
peeks-err limit text given held count new left Memory f few = tt

-- ---- holding what was read

pub no-octets : (xs : List ℕ) → length xs ≤ 0 → xs ≡ []
no-octets [] few = refl
no-octets (x ∷ xs) few = absurd (omega (arith, few))

whole-held : (octets : List ℕ) (old new : Held) (count : ℕ) → count ≡ length octets
    → new ≡ record { octets = old.octets ++ take count octets; given = old.given; room = old.room - count; past = false }
    → new ≡ record { octets = old.octets ++ octets; given = old.given; room = old.room - length octets; past = false }
whole-held octets old new count all is =
    is ∙ ap (λ (k : ℕ). record { octets = old.octets ++ take k octets; given = old.given; room = old.room - k; past = false }) all
    ∙ ap (λ (l : List ℕ). record { octets = old.octets ++ l; given = old.given; room = old.room - length octets; past = false })
    (take_all (length octets) octets (omega arith))

with-none : (given held : List ℕ) → held ≡ [] → given ++ held ≡ given
with-none given held none = ap (λ (l : List ℕ). given ++ l) none ∙ append-nil given

pub fills-more : (past some : Bool) (limit : ℕ) (text given octets rest : List ℕ) (old new : Held) (count : ℕ)
    → old.given ≡ length given → IsFront limit text (given ++ old.octets) old.room (octets ++ rest)
    → length old.octets + length octets ≤ most_at_once
    → (octets ≡ [] → rest ≡ []) → past ≡ nat_lt old.room (length octets) → some ≡ nat_lt 0 count
    → count ≡ min (length octets) old.room
    → new ≡ record { octets = old.octets ++ take count octets; given = old.given; room = old.room - count; past = past }
    → (past ≡ true → 1 ≤ count) → FillsMore limit text given old.octets new (Some rest) (Ok some)
fills-more true true limit text given octets rest old new count c f near end far some least is free =
    let wide : old.room < length octets = ltb-true old.room (length octets) (sym far) in
    let room : count ≡ old.room = omega (arith, least, wide) in
    let here : new ≡ record { octets = old.octets ++ take old.room octets; given = old.given; room = 0; past = true } =
    is ∙ ap (λ (k : ℕ). record { octets = old.octets ++ take k octets; given = old.given; room = old.room - k; past = true }) room
    ∙ ap (λ (k : ℕ). record { octets = old.octets ++ take old.room octets; given = old.given; room = k; past = true })
    (let z : old.room - old.room ≡ 0 = omega arith in z) in (
      held-some limit text given octets rest old new c f wide near here,
      subst (λ (h : Held). length old.octets < length h.octets) (sym is)
          (let l = length-take-le count octets (omega (arith, room, wide)) in
          let m = length-append old.octets (take count octets) in
          let f = free refl in omega (arith, l, m, f)),
    )
fills-more true false limit text given octets rest old new count c f near end far some least is free =
    let none : count ≤ 0 = ltb-false 0 count (sym some) in
    let f = free refl in absurd (omega (arith, none, f))
fills-more false true limit text given octets rest old new count c f near end far some least is free =
    let few : length octets ≤ old.room = ltb-false old.room (length octets) (sym far) in
    let all : count ≡ length octets = omega (arith, least, few) in
    let here = whole-held octets old new count all is in (
      held-all limit text given octets rest old new c f few near here,
      subst (λ (h : Held). length old.octets < length h.octets) (sym here)
          (let s = ltb-true 0 count (sym some) in let m = length-append old.octets octets in
          omega (arith, s, m, all)),
    )
fills-more false false limit text given octets rest old new count c f near end far some least is free =
    let few : length octets ≤ old.room = ltb-false old.room (length octets) (sym far) in
    let none : count ≤ 0 = ltb-false 0 count (sym some) in
    let empty : octets ≡ [] = no-octets octets (omega (arith, least, few, none)) in
    let all : count ≡ length octets = omega (arith, least, few) in
    let here = whole-held octets old new count all is in
    let behind : rest ≡ [] = end empty in (
      held-all limit text given octets rest old new c f few near here,
      ap (λ (h : Held). h.octets) here ∙ ap (λ (l : List ℕ). old.octets ++ l) empty ∙ append-nil old.octets,
      at-end limit text (given ++ old.octets) rest old.room
          (subst (λ (l : List ℕ). IsFront limit text (given ++ old.octets) old.room (l ++ rest)) empty f) behind,
    )

-- no room is left, and more came
pub fills-past : (limit : ℕ) (text given octets rest : List ℕ) (old new : Held) (count : ℕ)
    → old.given ≡ length given → IsFront limit text (given ++ old.octets) old.room (octets ++ rest)
    → length old.octets + length octets ≤ most_at_once → old.room < length octets
    → count ≡ min (length octets) old.room → count ≡ 0
    → new ≡ record { octets = old.octets ++ take count octets; given = old.given; room = old.room - count; past = true }
    → FillsMore limit text given old.octets new (Some rest) (Err Limit)
fills-past limit text given octets rest old new count c f near wide least none is =
    let room : count ≡ old.room = omega (arith, least, wide) in
    let full : old.room ≡ 0 = omega (arith, room, none) in
    let here : new ≡ record { octets = old.octets ++ take old.room octets; given = old.given; room = 0; past = true } =
    is ∙ ap (λ (k : ℕ). record { octets = old.octets ++ take k octets; given = old.given; room = old.room - k; past = true }) room
    ∙ ap (λ (k : ℕ). record { octets = old.octets ++ take old.room octets; given = old.given; room = k; past = true })
    (let z : old.room - old.room ≡ 0 = omega arith in z) in (
      held-some limit text given octets rest old new c f wide near here,
      ap (λ (h : Held). h.octets) here ∙ ap (λ (k : ℕ). old.octets ++ take k octets) full
          ∙ append-nil old.octets,
      past-none limit text (given ++ old.octets) octets rest old.room f full (omega (arith, wide)),
    )

-- nothing was held
pub fills-none : (limit : ℕ) (text given held : List ℕ) (new : Held) (left : Option (List ℕ))
    (r : Result Bool ReadEnd) → held ≡ [] → FillsMore limit text given held new left r
    → Fills limit text given new left r
fills-none limit text given held new left (Ok true) none f =
    (f.0, let l = ap length none in let m = f.1 in omega (arith, l, m))
fills-none limit text given held new left (Ok false) none f =
    (f.0, subst (λ (l : List ℕ). IsAtEnd limit text l left) (with-none given held none) f.2)
fills-none limit text given held new left (Err Limit) none f =
    (f.0, subst (λ (l : List ℕ). IsPast limit text l) (with-none given held none) f.2)
fills-none limit text given held new left (Err Failed) none f =
    (f.0, subst (λ (l : List ℕ). IsTaken limit text l left) (with-none given held none) f.2)
fills-none limit text given held new left (Err Memory) none f = tt
