-- Columns of items, one behind another.
use Rattle.std.proofs.Common.{◌≡◌, ◌≢◌, ◌∙◌, ◌<◌, ◌≤◌, ◌+◌, ◌*◌, ◌/◌, ℕ, zero, suc, List, [], ◌∷◌, ◌++◌, length, All, refl, sym, ap, subst, arith, append_assoc}
use Rattle.std.proofs.Math.Nat.{div-div-eq-div-mul, div-mul-le_self}
use Rattle.std.proofs.lemmas.Nat.{le-div}
use Rattle.std.proofs.lemmas.List.{append-nil, length-append}
use Rattle.std.proofs.lemmas.List.Elements.{All-nil, All-cons, All-head, All-tail, All-append, All-weaker}
use Rattle.tick_columns.specs.declared.column.Column.{Column}
use Rattle.tick_columns.specs.Columns.{AreColumns, IsColumn}
use Rattle.tick_columns.specs.inside.Joining.{both}

pub all-front : {X : Type 0} (P : X → Type 0) (xs ys : List X) → All P (xs ++ ys) → All P xs
all-front P [] ys all = All-nil P
all-front P (x ∷ xs) ys all =
    All-cons P x xs (All-head P x (xs ++ ys) all) (all-front P xs ys (All-tail P x (xs ++ ys) all))

pub all-behind : {X : Type 0} (P : X → Type 0) (xs ys : List X) → All P (xs ++ ys) → All P ys
all-behind P [] ys all = all
all-behind P (x ∷ xs) ys all = all-behind P xs ys (All-tail P x (xs ++ ys) all)

pub all-last : {X : Type 0} (P : X → Type 0) (xs : List X) (x : X) → All P (xs ++ x ∷ []) → P x
all-last P xs x all = All-head P x [] (all-behind P xs (x ∷ []) all)

-- ---- wider columns

pub wider-same : (w a b : ℕ) → a / w ≡ b / w → a / (w * 2) ≡ b / (w * 2)
wider-same w a b same =
    sym (div-div-eq-div-mul a w 2) ∙ ap (λ n. n / 2) same ∙ div-div-eq-div-mul b w 2

half : (a b : ℕ) → a ≤ b → a / 2 ≤ b / 2
half a b less = le-div (a / 2) b 2 (omega arith) (let own = div-mul-le_self a 2 in omega (arith, own, less))

pub wider-le : (w a b : ℕ) → a / w ≤ b / w → a / (w * 2) ≤ b / (w * 2)
wider-le w a b less =
    subst (λ n. n ≤ b / (w * 2)) (div-div-eq-div-mul a w 2)
    (subst (λ n. a / w / 2 ≤ n) (div-div-eq-div-mul b w 2) (half (a / w) (b / w) less))

pub div-less : (w a b : ℕ) → a ≤ b → a / w ≤ b / w
div-less zero a b less = omega arith
div-less (suc w) a b less =
    le-div (a / suc w) b (suc w) (omega arith) (let own = div-mul-le_self a (suc w) in omega (arith, own, less))

module _ {T : Type 0} (time : T → ℕ) where
  -- ---- one column

  -- each item of a column lies in it
  pub in-column : (w : ℕ) (items : List T) (c : Column T) → IsColumn time w items c
      → All (λ x. time x / w ≡ time c.last / w) items
  in-column w items c is =
      subst (λ (xs : List T). All (λ x. time x / w ≡ time c.last / w) xs) (sym is.items_are)
      (All-append (λ x. time x / w ≡ time c.last / w) is.before (c.last ∷ []) is.together
      (All-cons (λ x. time x / w ≡ time c.last / w) c.last [] refl
      (All-nil (λ x. time x / w ≡ time c.last / w))))

  pub one-column : (w : ℕ) (x : T) → IsColumn time w (x ∷ []) (record { before = 0; last = x })
  one-column w x = record {
    before = [];
    items_are = refl;
    counted = refl;
    together = All-nil (λ (y : T). time y / w ≡ time x / w);
  }

  pub wider-column : (w : ℕ) (items : List T) (c : Column T) → IsColumn time w items c
      → IsColumn time (w * 2) items c
  wider-column w items c is = record {
    before = is.before;
    items_are = is.items_are;
    counted = is.counted;
    together = All-weaker (λ (x : T). time x / w ≡ time c.last / w)
        (λ (x : T). time x / (w * 2) ≡ time c.last / (w * 2))
        (λ x same. wider-same w (time x) (time c.last) same) is.before is.together;
  }

  pub both-column : (w : ℕ) (xs ys : List T) (d c : Column T) → IsColumn time w xs d
      → IsColumn time w ys c → time d.last / w ≡ time c.last / w → IsColumn time w (xs ++ ys) (both d c)
  both-column w xs ys d c one other same = record {
    before = xs ++ other.before;
    items_are = ap (λ (zs : List T). xs ++ zs) other.items_are
        ∙ sym (append_assoc xs other.before (c.last ∷ []));
    counted =
        let own = one.counted in
        let its = other.counted in
        let whole : length xs ≡ length (one.before ++ d.last ∷ []) = ap (λ (zs : List T). length zs) one.items_are in
        let parts = length-append one.before (d.last ∷ []) in
        let all = length-append xs other.before in
        omega (arith, own, its, whole, parts, all);
    together = All-append (λ (x : T). time x / w ≡ time c.last / w) xs other.before
        (All-weaker (λ (x : T). time x / w ≡ time d.last / w) (λ (x : T). time x / w ≡ time c.last / w)
        (λ x is. is ∙ same) xs (in-column w xs d one)) other.together;
  }

  -- ---- columns

  pub behind : (w : ℕ) (xs ys : List T) (cs : List (Column T)) (c : Column T)
      → AreColumns time w xs cs → IsColumn time w ys c
      → All (λ x. time x / w < time c.last / w) xs → AreColumns time w (xs ++ ys) (cs ++ c ∷ [])
  behind w xs ys [] c none is less = (
    ys,
    [],
    ap (λ (zs : List T). zs ++ ys) none ∙ sym (append-nil ys),
    is,
    All-nil (λ (x : T). time c.last / w < time x / w),
    refl,
  )
  behind w xs ys (d ∷ cs) c are is less =
      let apart : All (λ x. time x / w < time c.last / w) (are.0 ++ are.1) =
      subst (λ (zs : List T). All (λ x. time x / w < time c.last / w) zs) are.2 less in
      let own = all-front (λ (x : T). time x / w < time c.last / w) are.0 are.1 apart in
      let first : time d.last / w < time c.last / w =
      all-last (λ (x : T). time x / w < time c.last / w) are.3.before d.last
      (subst (λ (zs : List T). All (λ x. time x / w < time c.last / w) zs) are.3.items_are own) in (
        are.0,
        are.1 ++ ys,
        ap (λ (zs : List T). zs ++ ys) are.2 ∙ append_assoc are.0 are.1 ys,
        are.3,
        All-append (λ (x : T). time d.last / w < time x / w) are.1 ys are.4
            (All-weaker (λ (x : T). time x / w ≡ time c.last / w) (λ (x : T). time d.last / w < time x / w)
            (λ x same. let at : time x / w ≡ time c.last / w = same in omega (arith, at, first)) ys (in-column w ys c is)),
        behind w are.1 ys cs c are.5 is
            (all-behind (λ (x : T). time x / w < time c.last / w) are.0 are.1 apart),
      )

  -- the last column apart
  pub record IsApart (w : ℕ) (items : List T) (cs : List (Column T)) (c : Column T) : Type 0 where
    pub front : List T
    pub own : List T
    pub parts : items ≡ front ++ own
    pub columns : AreColumns time w front cs
    pub column : IsColumn time w own c
    pub less : All (λ x. time x / w < time c.last / w) front

  pub apart : (w : ℕ) (items : List T) (cs : List (Column T)) (c : Column T)
      → AreColumns time w items (cs ++ c ∷ []) → IsApart w items cs c
  apart w items [] c are = record {
    front = [];
    own = are.0;
    parts = are.2 ∙ ap (λ (zs : List T). are.0 ++ zs) are.5 ∙ append-nil are.0;
    columns = refl;
    column = are.3;
    less = All-nil (λ (x : T). time x / w < time c.last / w);
  }
  apart w items (d ∷ cs) c are =
      let rest = apart w are.1 cs c are.5 in
      let late : All (λ x. time d.last / w < time x / w) (rest.front ++ rest.own) =
      subst (λ (zs : List T). All (λ x. time d.last / w < time x / w) zs) rest.parts are.4 in
      let its = all-behind (λ (x : T). time d.last / w < time x / w) rest.front rest.own late in
      let first : time d.last / w < time c.last / w =
      all-last (λ (x : T). time d.last / w < time x / w) rest.column.before c.last
      (subst (λ (zs : List T). All (λ x. time d.last / w < time x / w) zs) rest.column.items_are its) in
      record {
        front = are.0 ++ rest.front;
        own = rest.own;
        parts = are.2 ∙ ap (λ (zs : List T). are.0 ++ zs) rest.parts ∙ sym (append_assoc are.0 rest.front rest.own);
        columns = (
          are.0,
          rest.front,
          refl,
          are.3,
          all-front (λ (x : T). time d.last / w < time x / w) rest.front rest.own late,
          rest.columns,
        );
        column = rest.column;
        less = All-append (λ (x : T). time x / w < time c.last / w) are.0 rest.front
            (All-weaker (λ (x : T). time x / w ≡ time d.last / w) (λ (x : T). time x / w < time c.last / w)
            (λ x same. let at : time x / w ≡ time d.last / w = same in omega (arith, at, first)) are.0
            (in-column w are.0 d are.3)) rest.less;
      }
