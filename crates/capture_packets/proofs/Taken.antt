-- Octets are taken of what a text goes on with.
use Rattle.std.proofs.Common.{◌≡◌, ℕ, zero, suc, ◌+◌, ◌<◌, ◌≤◌, List, [], ◌∷◌, ◌++◌, length, take, drop, Option, Result, Ok, Err, refl, sym, ap, ◌∙◌, subst, append_assoc, length-append, length-drop, arith, inl, inr, take_at, drop_at}
use Rattle.std.proofs.lemmas.List.{append-nil, take-append-drop, take_all}
use Rattle.std.proofs.lemmas.Bool.{cases_lt}
use Rattle.std.proofs.Math.Seq.{take-add}
use Rattle.lan_base.specs.declared.source.ReadEnd.{ReadEnd}
use Rattle.lan_base.specs.declared.source.ReadEnd.TheVariants.{Limit, Failed, Memory}
use Rattle.octet_supply.specs.Supplying.{Held, IsGiven, IsPast, IsTaken, Passes, Stands, Takes}
use Rattle.octet_supply.proofs.Public.{within}
use Rattle.capture_packets.specs.declared.block.Block.{Block}
use Rattle.capture_packets.specs.Numbers.{part}
use Rattle.capture_packets.specs.inside.Taking.{EndsWith, TakesBlock}

-- what follows one front is one
pub behind-same : (a b c : List ℕ) → a ++ b ≡ a ++ c → b ≡ c
behind-same a b c is = sym (drop_at a b (length a) refl) ∙ ap (drop (length a)) is ∙ drop_at a c (length a) refl

take-few : (n : ℕ) (xs : List ℕ) → length (take n xs) ≤ n
take-few zero xs = omega arith
take-few (suc n) [] = omega arith
take-few (suc n) (x ∷ xs) = let t = take-few n xs in omega (arith, t)

-- so many octets were given out of those that follow
record GivenBehind (limit : ℕ) (text given behind more : List ℕ) (count : ℕ) : Type 0 where
  is : more ≡ take count behind
  ends : length behind < count → EndsWith limit text (given ++ behind)

given-behind : (limit : ℕ) (text given behind more : List ℕ) (count : ℕ) (h : Held) (left : Option (List ℕ))
    → take limit text ≡ given ++ behind → IsGiven limit text given count more h left
    → GivenBehind limit text given behind more count
given-behind limit text given behind more count h left visible (s, inl counted) =
    let a = within limit text (given ++ more) h left s in
    let same = behind-same given behind (more ++ a.ahead)
    (sym visible ∙ a.front ∙ append_assoc given more a.ahead) in
    record {
      is = sym (ap (take count) same ∙ take_at more a.ahead count counted);
      ends = λ less. absurd (let l = ap length same ∙ length-append more a.ahead in
          omega (arith, l, counted, less));
    }
given-behind limit text given behind more count h left visible (s, inr (less, end)) =
    let w = end.within in
    let same = behind-same given behind more
    (sym visible ∙ take_all limit text (omega (arith, w)) ∙ end.all) in
    record {
      is = sym (ap (take count) same ∙ take_all count more (omega (arith, less)));
      ends = λ _. record {
        all = end.all ∙ ap (λ (l : List ℕ). given ++ l) (sym same);
        within = end.within;
      };
    }

-- so many of the octets that follow were given out, or all of fewer
pub record Got (limit : ℕ) (text given behind : List ℕ) (gone : ℕ) (h : Held) (left : Option (List ℕ)) : Type 0
  where
    pub stands : Stands limit text (given ++ take gone behind) h left
    pub ends : length behind < gone → EndsWith limit text (given ++ behind)

pub got-none : (limit : ℕ) (text given behind : List ℕ) (h : Held) (left : Option (List ℕ))
    → Stands limit text given h left → Got limit text given behind 0 h left
got-none limit text given behind h left s = record {
  stands = subst (λ (l : List ℕ). Stands limit text l h left) (sym (append-nil given)) s;
  ends = λ less. absurd (omega (arith, less));
}

rest-visible : (limit : ℕ) (text given behind : List ℕ) (gone : ℕ) → take limit text ≡ given ++ behind
    → take limit text ≡ (given ++ take gone behind) ++ drop gone behind
rest-visible limit text given behind gone visible =
    visible ∙ ap (λ (l : List ℕ). given ++ l) (sym (take-append-drop gone behind))
    ∙ sym (append_assoc given (take gone behind) (drop gone behind))

pub record GotMore (limit : ℕ) (text given behind more : List ℕ) (gone count : ℕ) (h : Held)
    (left : Option (List ℕ)) : Type 0 where
  pub got : Got limit text given behind (gone + count) h left
  pub is : more ≡ part gone count behind

pub got-more : (limit : ℕ) (text given behind more : List ℕ) (gone count : ℕ) (h new : Held)
    (left left_then : Option (List ℕ)) → take limit text ≡ given ++ behind
    → Got limit text given behind gone h left
    → IsGiven limit text (given ++ take gone behind) count more new left_then
    → GotMore limit text given behind more gone count new left_then
got-more limit text given behind more gone count h new left left_then visible t i =
    let front = take gone behind in
    let g = given-behind limit text (given ++ front) (drop gone behind) more count new left_then
    (rest-visible limit text given behind gone visible) i in
    record {
      got = record {
        stands = subst (λ (l : List ℕ). Stands limit text l new left_then)
            (append_assoc given front more ∙ ap (λ (l : List ℕ). given ++ (front ++ l)) g.is
            ∙ ap (λ (l : List ℕ). given ++ l) (sym (take-add gone count behind))) i.0;
        ends = λ less. ends-by limit text given behind gone count t.ends g.ends less;
      };
      is = g.is;
    }
  where
    ends-by : (limit : ℕ) (text given behind : List ℕ) (gone count : ℕ)
        → (length behind < gone → EndsWith limit text (given ++ behind))
        → (length (drop gone behind) < count
        → EndsWith limit text ((given ++ take gone behind) ++ drop gone behind))
        → length behind < gone + count → EndsWith limit text (given ++ behind)
    ends-by limit text given behind gone count early late less =
        elim (cases_lt (length behind) gone) [
          | inl l ↦ early l
          | inr m ↦ subst (λ (l : List ℕ). EndsWith limit text l)
              (append_assoc given (take gone behind) (drop gone behind)
              ∙ ap (λ (l : List ℕ). given ++ l) (take-append-drop gone behind))
              (late (let d = length-drop gone behind in omega (arith, d, m, less)))
        ]

-- ---- not all is there

pub got-past : (limit : ℕ) (text given behind more : List ℕ) (gone count all : ℕ)
    → take limit text ≡ given ++ behind → length more < count → gone + count ≤ all
    → IsPast limit text ((given ++ take gone behind) ++ more)
    → (length behind < all) × (limit < length text)
got-past limit text given behind more gone count all visible less few p =
    let front = take gone behind in
    let same = behind-same given behind (front ++ more) (sym visible ∙ p.front ∙ append_assoc given front more) in
    let l = ap length same ∙ length-append front more in
    let t = take-few gone behind in
    (omega (arith, l, t, less, few), p.longer)

pub got-failed : (limit : ℕ) (text given behind more : List ℕ) (gone count all : ℕ) (left : Option (List ℕ))
    → length more < count → gone + count ≤ all → IsTaken limit text ((given ++ take gone behind) ++ more) left
    → (taken : List ℕ) × (length taken < all) × IsTaken limit text (given ++ taken) left
got-failed limit text given behind more gone count all left less few p =
    let front = take gone behind in
    let l = length-append front more in
    let t = take-few gone behind in (
      front ++ more,
      omega (arith, l, t, less, few),
      subst (λ (l : List ℕ). IsTaken limit text l left) (append_assoc given front more) p,
    )

-- how many octets a block has
abbrev all_of : Block → ℕ → ℕ
all_of block end = block.before + (block.kept + (block.behind + end))

pub pass-err : (limit : ℕ) (text given behind : List ℕ) (gone count end : ℕ) (block : Block) (into : List ℕ)
    (middle new : Held) (left : Option (List ℕ)) (e : ReadEnd) → take limit text ≡ given ++ behind
    → gone + count ≤ all_of block end
    → Passes limit text (given ++ take gone behind) count middle left (Err e)
    → TakesBlock limit text given behind end block into new left (Err e)
pass-err limit text given behind gone count end block into middle new left Limit visible few (more, less, (stands, past)) =
    got-past limit text given behind more gone count (all_of block end) visible less few past
pass-err limit text given behind gone count end block into middle new left Failed visible few (more, less, (stands, taken)) =
    got-failed limit text given behind more gone count (all_of block end) left less few taken
pass-err limit text given behind gone count end block into middle new left Memory visible few t = tt

pub take-err : (limit : ℕ) (text given behind : List ℕ) (gone count end : ℕ) (block : Block)
    (old now into : List ℕ) (middle new : Held) (left : Option (List ℕ)) (e : ReadEnd)
    → take limit text ≡ given ++ behind → gone + count ≤ all_of block end
    → Takes limit text (given ++ take gone behind) count old now middle left (Err e)
    → TakesBlock limit text given behind end block into new left (Err e)
take-err limit text given behind gone count end block old now into middle new left Limit visible few (more, is, less, (stands, past)) =
    got-past limit text given behind more gone count (all_of block end) visible less few past
take-err limit text given behind gone count end block old now into middle new left Failed visible few (more, is, less, (stands, taken)) =
    got-failed limit text given behind more gone count (all_of block end) left less few taken
take-err limit text given behind gone count end block old now into middle new left Memory visible few t = tt

-- ---- all is there, or the text ends

-- the octets that close a block are taken last, behind those that are kept
pub last-take : (limit : ℕ) (text given behind : List ℕ) (end : ℕ) (block : Block) (old now : List ℕ)
    (h new : Held) (left left_then : Option (List ℕ)) (r : Result (Unit {0}) ReadEnd)
    → take limit text ≡ given ++ behind → old ≡ part block.before block.kept behind
    → Got limit text given behind (block.before + (block.kept + block.behind)) h left
    → Takes limit text (given ++ take (block.before + (block.kept + block.behind)) behind) end old now new left_then r
    → TakesBlock limit text given behind end block now new left_then r
last-take limit text given behind end block old now h new left left_then (Ok done) visible kept t (more, is, i) =
    let gone = block.before + (block.kept + block.behind) in
    let g = got-more limit text given behind more gone end h new left left_then visible t i in
    let s = g.got.stands in
    let same : gone + end ≡ all_of block end = omega arith in (
      subst (λ (k : ℕ). Stands limit text (given ++ take k behind) new left_then) same s,
      is ∙ ap (λ (l : List ℕ). l ++ more) kept
          ∙ ap (λ (l : List ℕ). part block.before block.kept behind ++ l) g.is,
      (λ less. g.got.ends (omega (arith, same, less))),
    )
last-take limit text given behind end block old now h new left left_then (Err e) visible kept t k =
    take-err limit text given behind (block.before + (block.kept + block.behind)) end end block old now now
    new new left_then e visible (omega arith) k
