-- A name and zeros behind it are padded.
use Rattle.std.proofs.Common.{◌≡◌, ℕ, ◌-◌, List, ◌++◌, length, take, drop, replicate, refl, sym, ap, ◌∙◌, subst, arith, length-append}
use Rattle.std.proofs.lemmas.List.{take_at, drop-replicate}
use Rattle.lan_base.specs.Name.{IsName, IsPadded, padded}

pub IsPadded-filled : (word zeros : List ℕ) → IsName word → zeros ≡ replicate 16 0 → IsPadded (word ++ drop (length word) zeros) (length word)
IsPadded-filled word zeros name all_zero =
    let front : take (length word) (word ++ drop (length word) zeros) ≡ word = take_at word (drop (length word) zeros) (length word) refl in
    let back : drop (length word) zeros ≡ replicate (16 - length word) 0 = ap (drop (length word)) all_zero ∙ drop-replicate (length word) 16 0 in
    record {
      within = omega (arith, length-append word (drop (length word) zeros));
      name = subst IsName (sym front) name;
      zeros = ap (λ rest. word ++ rest) back ∙ sym (ap padded front);
    }
