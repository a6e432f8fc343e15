-- The parts of a file, where it is told apart, and the file, where its parts are told.
use Rattle.std.proofs.Common.{◌≡◌, ℕ, ◌+◌, ◌-◌, ◌≤◌, List, ◌++◌, length, take, drop, sym, ap, ◌∙◌, arith, append_assoc}
use Rattle.std.proofs.lemmas.List.{take_at, drop_at, drop-drop, take-append-drop, take-take, length-append}
use Rattle.lbm_ckpt.proofs.Fours.{take-more}

-- five parts and a seal
abbrev pub joined : List ℕ → List ℕ → List ℕ → List ℕ → List ℕ → List ℕ → List ℕ
joined a b c d e seal = a ++ (b ++ (c ++ (d ++ (e ++ seal))))

pub regrouped : (a b c d e seal : List ℕ) → (a ++ b ++ c ++ d ++ e) ++ seal ≡ joined a b c d e seal
regrouped a b c d e seal =
    append_assoc (a ++ b ++ c ++ d) e seal ∙ append_assoc (a ++ b ++ c) d (e ++ seal) ∙ append_assoc (a ++ b) c (d ++ (e ++ seal)) ∙ append_assoc a b (c ++ (d ++ (e ++ seal)))

-- ---- a file that is put together

module _ (a b c d e seal : List ℕ) (n : ℕ) (first : length a ≡ 8) (second : length b ≡ 32) (third : length c ≡ 8) (fourth : length d ≡ n) (last : length seal ≡ 32) where
  pub length-joined : length (joined a b c d e seal) ≡ 80 + n + length e
  length-joined =
      omega (arith, length-append a (b ++ (c ++ (d ++ (e ++ seal)))), length-append b (c ++ (d ++ (e ++ seal))), length-append c (d ++ (e ++ seal)), length-append d (e ++ seal), length-append e seal, first, second, third, fourth, last)

  pub joined-first : take 8 (joined a b c d e seal) ≡ a
  joined-first = take_at a (b ++ (c ++ (d ++ (e ++ seal)))) 8 first

  after_first : drop 8 (joined a b c d e seal) ≡ b ++ (c ++ (d ++ (e ++ seal)))
  after_first = drop_at a (b ++ (c ++ (d ++ (e ++ seal)))) 8 first

  pub joined-second : take 32 (drop 8 (joined a b c d e seal)) ≡ b
  joined-second = ap (take 32) after_first ∙ take_at b (c ++ (d ++ (e ++ seal))) 32 second

  after_second : drop 40 (joined a b c d e seal) ≡ c ++ (d ++ (e ++ seal))
  after_second = sym (drop-drop 32 8 (joined a b c d e seal)) ∙ ap (drop 32) after_first ∙ drop_at b (c ++ (d ++ (e ++ seal))) 32 second

  pub joined-third : take 8 (drop 40 (joined a b c d e seal)) ≡ c
  joined-third = ap (take 8) after_second ∙ take_at c (d ++ (e ++ seal)) 8 third

  after_third : drop 48 (joined a b c d e seal) ≡ d ++ (e ++ seal)
  after_third = sym (drop-drop 8 40 (joined a b c d e seal)) ∙ ap (drop 8) after_second ∙ drop_at c (d ++ (e ++ seal)) 8 third

  pub joined-fourth : take n (drop 48 (joined a b c d e seal)) ≡ d
  joined-fourth = ap (take n) after_third ∙ take_at d (e ++ seal) n fourth

-- content and seal
pub sealed-content : (content seal : List ℕ) → length seal ≡ 32 → take (length (content ++ seal) - 32) (content ++ seal) ≡ content
sealed-content content seal last = take_at content seal (length (content ++ seal) - 32) (omega (arith, length-append content seal, last))

pub sealed-seal : (content seal : List ℕ) → length seal ≡ 32 → drop (length (content ++ seal) - 32) (content ++ seal) ≡ seal
sealed-seal content seal last = drop_at content seal (length (content ++ seal) - 32) (omega (arith, length-append content seal, last))

-- the last part of the content
pub content-last : (a b c d e : List ℕ) (n : ℕ) → length a ≡ 8 → length b ≡ 32 → length c ≡ 8 → length d ≡ n → drop (48 + n) (a ++ b ++ c ++ d ++ e) ≡ e
content-last a b c d e n first second third fourth =
    drop_at (a ++ b ++ c ++ d) e (48 + n) (omega (arith, length-append (a ++ b ++ c) d, length-append (a ++ b) c, length-append a b, first, second, third, fourth))

-- ---- a file that is taken apart

pub taken_apart : (bytes : List ℕ) (n : ℕ) → 48 + n ≤ length bytes - 32
    → take 8 bytes ++ take 32 (drop 8 bytes) ++ take 8 (drop 40 bytes) ++ take n (drop 48 bytes) ++ drop (48 + n) (take (length bytes - 32) bytes) ≡ take (length bytes - 32) bytes
taken_apart bytes n long =
    let content = take (length bytes - 32) bytes in
    let two : take 8 bytes ++ take 32 (drop 8 bytes) ≡ take 40 bytes = sym (take-more bytes 8 32) in
    let three : take 40 bytes ++ take 8 (drop 40 bytes) ≡ take 48 bytes = sym (take-more bytes 40 8) in
    let four : take 48 bytes ++ take n (drop 48 bytes) ≡ take (48 + n) bytes = sym (take-more bytes 48 n) in
    let front : take (48 + n) bytes ≡ take (48 + n) content = sym (take-take (48 + n) (length bytes - 32) bytes long) in
    ap (λ t. t ++ take 8 (drop 40 bytes) ++ take n (drop 48 bytes) ++ drop (48 + n) content) two
    ∙ ap (λ t. t ++ take n (drop 48 bytes) ++ drop (48 + n) content) three
    ∙ ap (λ t. t ++ drop (48 + n) content) (four ∙ front)
    ∙ take-append-drop (48 + n) content
