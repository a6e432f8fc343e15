-- A patch is taken apart into its two words and its places, and made of them. Assumes `Logic`.
use mathlib.Core.Path.{◌≡◌, refl, ap, ◌∙◌}
use mathlib.Core.Bool.{Bool, true, false}
use Prim.Native.Nat.{ℕ, zero, suc, ◌+◌, ◌*◌, ◌<◌, ◌^◌}
use native.Mathlib.Omega.{arith}
use mathlib.Core.List.{List, [], ◌∷◌, ◌++◌}
use lib.ListN.{length, get_or}
use seplogic.Ra.Ura.{Ura}
use mir.Syntax.{w64}
use mir.Val.{Val, vint, vptr, vstruct, of_list}
use base.Logic.{id⊢, never}
use base.Fml.{Fml, Lft, ftrue, fsep, fhide}
use types.Logic.{Logic}
use types.Kit.{Goal, Item, Seq, Step, step, ‵, ◌⊛◌, ◌$◌, move, drop, use1, split, fsplit, fjoin, flt_l, flt_i}
use denote.RattleType.{RattleType}
use denote.Memory.{hidden_shr}
use denote.Opens.{unhide}
use denote.RawPtr.{Ptr, RawPtr, block_ptr, in_block, in_a_block}
use denote.Shadow.{pure_l, pure_i}
use denote.Steps.{nothing}
use denote.Struct.Lending.{lent_out}
use denote.Struct.Struct.{Struct}
use denote.Struct.Owning.{shape}
use Rattle.core.proofs.mem.Param.{El, R, el_x}
use Rattle.core.proofs.ptr.Rows.{times_below, one_below}
use Rattle.core.specs.Mem.Slots.Ownership.{bytes_of, slots_lent}
use Rattle.core.proofs.slots.Lent.{none_at_null, value_lent}
use Rattle.core.proofs.slots.Opens.{words_val, row_val}
use Rattle.lbm_patch.specs.Ownership.{spots}
use Rattle.lbm_patch.specs.declared.Patch.{Patch}
use Rattle.lbm_patch.specs.contracts.Patch.{struct, the_codes, the_heap, the_lent, the_row, the_type}

-- the parameters of which nothing is left
abbrev pub gone : ℕ → Fml
gone zero = ftrue
gone (suc k) = fsep ftrue (gone k)

pub none_left : {M : Type 1} {𝓤 : Ura M} {𝓛 : Logic 𝓤} {K : Type 0} {Γ : List (Item 𝓤)} {G : Goal 𝓤 𝓛.H} → K → (k : ℕ) → Step K 𝓛 (‵ (gone k) ∷ Γ) G Γ G
none_left t zero = nothing t
none_left t (suc k) = step (λ s. none_left t k $ nothing t $ fjoin t $ s)

-- how far place i lies, of n places of s bytes
pub within_reach : (i n s : ℕ) → i < n → n * s < 2 ^ 63 → (s < 2 ^ 64) × (i * s < 2 ^ 64)
within_reach i n s lt fit =
    let one : s < 2 ^ 63 = one_below n s (2 ^ 63) (omega (arith, lt)) fit in let upto : i * s < 2 ^ 63 = times_below i n s (2 ^ 63) (omega (arith, lt)) fit in
    (omega (arith, one), omega (arith, upto))

module _ (E : El) where
  abbrev pub Of : RattleType
  Of = the_row (R E)

  abbrev pub Held : Type 0
  Held = Patch (el_x E)

  abbrev pub each : ℕ
  each = bytes_of (R E)

  abbrev Two : RattleType
  Two = Struct (shape (the_type (R E)))

  abbrev pub lain : ℕ → ℕ → List Bool → List (el_x E) → Fml
  lain b o ms xs = spots (R E) (block_ptr b o) ms xs

  abbrev pub patch_at : (b o n : ℕ) (ms : List Bool) (xs : List (el_x E)) → (n ≡ length xs) × (n ≡ length ms) → n < 2 ^ 64 → Held
  patch_at b o n ms xs ok low = record { ptr = block_ptr b o; len = n; items = xs; mine = ms; ok = ok; small = low }

  module _ {M : Type 1} {𝓤 : Ura M} {𝓛 : Logic 𝓤} {K : Type 0} {Γ : List (Item 𝓤)} {G : Goal 𝓤 𝓛.H} where
    pub apart : K → (a : Held) (vs : List Val) → ((b o : ℕ) → a.ptr ≡ block_ptr b o → vs ≡ row_val b o a.len ∷ [] → a.len * each < 2 ^ 63 → Seq K 𝓛 (‵ (lain b o a.mine a.items) ∷ Γ) G)
        → Seq K 𝓛 (‵ (Of.own_val a vs) ∷ Γ) G
    apart t a vs k = fsplit t $ pure_l t (Two.own_val (a.ptr, (a.len, tt)) vs) (λ w. fsplit t $ flt_l t (λ fit.
        in_a_block t a.ptr (λ p. in_block p (spots (R E) p a.mine a.items)) (id⊢ 𝓤 (never 𝓤)) (λ b o at.
        let spelled : vs ≡ words_val a.ptr a.len ∷ [] = w.1.0 ∙ (λ i. vstruct (of_list (w.1.1.0 i ++ (w.1.1.1.0.0 i ++ []))) ∷ []) in
        k b o at (spelled ∙ ap (λ (p : Ptr). words_val p a.len ∷ []) at) fit)))

    pub together : K → (b o n : ℕ) (ms : List Bool) (xs : List (el_x E)) (ok : (n ≡ length xs) × (n ≡ length ms)) (low : n < 2 ^ 64) → n * each < 2 ^ 63
        → Step K 𝓛 (‵ (Of.own_val (patch_at b o n ms xs ok low) (row_val b o n ∷ [])) ∷ Γ) G (‵ (lain b o ms xs) ∷ Γ) G
    together t b o n ms xs ok low fit = step (λ s. flt_i t (n * each) (2 ^ 63) fit $ fjoin t $
        pure_i t (Two.own_val (block_ptr b o, (n, tt)) (row_val b o n ∷ [])) (λ _. (tt, (tt, ((tt, tt), tt)))) ((vptr b o ∷ [], (vint w64 n ∷ [], tt)), (refl, (refl, ((refl, low), tt)))) $ fjoin t $ s)

    -- a `&` to a patch shows a `&` to its pointer, and one to the value of a place that it holds
    pub shown : K → (κ : Lft) (a : Held) (at to i : ℕ) (d : el_x E) → i < a.len → get_or a.mine i false ≡ true
        → ((b o : ℕ) → a.ptr ≡ block_ptr b o → a.len * each < 2 ^ 63 → Seq K 𝓛 (‵ (hidden_shr RawPtr κ a.ptr at (to + 0)) ∷ ‵ (hidden_shr (R E) κ (get_or a.items i d) b (i * each + o)) ∷ Γ) G)
        → Seq K 𝓛 (‵ (hidden_shr Of κ a at to) ∷ Γ) G
    shown t κ a at to i d lt held k =
        let im : i < length a.mine = omega (arith, lt, a.ok.1) in let ix : i < length a.items = omega (arith, lt, a.ok.0) in
        use1 𝓛 (‵ (hidden_shr Two κ (a.ptr, (a.len, tt)) at to) ⊛ ‵ (fhide (the_lent (R E) a a.ptr κ)))
        (lent_out 𝓛 (struct (R E)) (the_codes (el_x E) (R E).coded) (the_heap (R E)) (the_lent (R E)) κ a at to) $ split t $
        unhide t $ fsplit t $ fsplit t $ use1 𝓛 (‵ (hidden_shr RawPtr κ a.ptr at (to + 0))) (id⊢ 𝓤 _) $ move t (3 ∷ []) $ unhide t $ fsplit t $ flt_l t (λ fit.
        in_a_block t a.ptr (λ (p : Ptr). slots_lent (R E) p a.items a.mine κ) (none_at_null E 𝓛 κ a.items a.mine i ix im held) (λ b o is.
        use1 𝓛 (‵ (hidden_shr (R E) κ (get_or a.items i d) b (i * each + o))) (value_lent E 𝓛 κ b o a.items a.mine i d ix im held) $
        -- [the value; the pointer; the other word; what the struct's own bytes are]
        move t (2 ∷ []) $ drop t $ move t (2 ∷ []) $ drop t $ move t (1 ∷ []) $ k b o is fit))
