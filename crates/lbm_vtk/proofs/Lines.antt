-- The lines that are put part by part.
use Rattle.std.proofs.Common.{◌≡◌, ◌≢◌, ℕ, List, [], ◌∷◌, ◌++◌, refl, sym, ◌∙◌, ap, append_assoc, append-nil}
use Rattle.std.specs.Prelude.{codes}
use Rattle.std.specs.Fmt.{decimal, signed_decimal}
use Rattle.std.specs.List.{flat_map, join_by}
use Rattle.lbm_space.specs.Torus.{Torus, cells}
use Rattle.lbm_cell.specs.declared.populations.Moment.{Moment}
use Rattle.lbm_vtk.specs.declared.Format.{Format}
use Rattle.lbm_vtk.specs.declared.Format.TheVariants.{Ascii, Binary}
use Rattle.lbm_vtk.specs.Vtk.{four_bytes, head, line, momentum, name, row, vtk}

line-rest : (text rest : List ℕ) → line text ++ rest ≡ text ++ (10 ∷ rest)
line-rest text rest = append_assoc text (10 ∷ []) rest

triple-rest : {X : Type 0} (f : X → List ℕ) (x y z : X) (rest : List ℕ)
    → join_by f (codes " ") (x ∷ y ∷ z ∷ []) ++ rest ≡ f x ++ (32 ∷ (f y ++ (32 ∷ (f z ++ rest))))
triple-rest f x y z rest =
    append_assoc (f x) _ rest ∙ ap (λ t. f x ++ (32 ∷ t))
    (append_assoc (f y) _ rest ∙ ap (λ t. f y ++ (32 ∷ t)) (ap (λ t. t ++ rest) (append-nil (f z))))

in_order : (space : Torus) (title : List ℕ) (step : ℕ) (field : List ℕ) (format : Format)
    → flat_map line (head space title step field format)
    ≡ codes "# vtk DataFile Version 3.0\n" ++ (title ++ (decimal step ++ (codes "\n" ++ (name format
    ++ (codes "\nDATASET STRUCTURED_POINTS\nDIMENSIONS "
    ++ (decimal space.nx ++ (codes " " ++ (decimal space.ny ++ (codes " " ++ (decimal space.nz
    ++ (codes "\nORIGIN 0 0 0\nSPACING 1 1 1\nPOINT_DATA " ++ (decimal (cells space)
    ++ (codes "\nSCALARS " ++ (field ++ (codes " int 1\nLOOKUP_TABLE default\n" ++ [])))))))))))))))
in_order space title step field format =
    let sides = space.nx ∷ space.ny ∷ space.nz ∷ [] in
    let x = decimal space.nx in
    let y = decimal space.ny in
    let z = decimal space.nz in
    ap (λ t. codes "# vtk DataFile Version 3.0\n" ++ t)
    (line-rest (title ++ decimal step) _ ∙ append_assoc title (decimal step) _ ∙ ap (λ t. title ++ (decimal step ++ (10 ∷ t)))
    (line-rest (name format) _ ∙ ap (λ t. name format ++ (codes "\nDATASET STRUCTURED_POINTS\nDIMENSIONS " ++ t))
    (line-rest (join_by decimal (codes " ") sides) _ ∙ triple-rest decimal space.nx space.ny space.nz _
    ∙ ap (λ t. x ++ (codes " " ++ (y ++ (codes " " ++ (z ++ (codes "\nORIGIN 0 0 0\nSPACING 1 1 1\nPOINT_DATA " ++ t)))))) (line-rest (decimal (cells space)) _
    ∙ ap (λ t. decimal (cells space) ++ (codes "\nSCALARS " ++ t)) (line-rest (field ++ codes " int 1") _ ∙ append_assoc field (codes " int 1") _)))))

-- the parts that are put, whatever they are equal to
pub head-parts : (space : Torus) (title : List ℕ) (step : ℕ) (field : List ℕ) (format : Format) (first at end third sides x gap y between z spacing count scalar last : List ℕ)
    → first ≡ codes "# vtk DataFile Version 3.0\n" → at ≡ decimal step → end ≡ codes "\n" → third ≡ name format
    → sides ≡ codes "\nDATASET STRUCTURED_POINTS\nDIMENSIONS "
    → x ≡ decimal space.nx → gap ≡ codes " " → y ≡ decimal space.ny → between ≡ codes " " → z ≡ decimal space.nz
    → spacing ≡ codes "\nORIGIN 0 0 0\nSPACING 1 1 1\nPOINT_DATA " → count ≡ decimal (cells space)
    → scalar ≡ codes "\nSCALARS " → last ≡ codes " int 1\nLOOKUP_TABLE default\n"
    → first ++ (title ++ (at ++ (end ++ (third ++ (sides ++ (x ++ (gap ++ (y ++ (between ++ (z ++ (spacing ++ (count ++ (scalar ++ (field ++ (last ++ [])))))))))))))))
    ≡ flat_map line (head space title step field format)
head-parts space title step field format first at end third sides x gap y between z spacing count scalar last e1 e2 e3 e4 e5 e6 e7 e8 e9 e10 e11 e12 e13 e14 =
    rw (e1, e2, e3, e4, e5, e6, e7, e8, e9, e10, e11, e12, e13, e14) (sym (in_order space title step field format))

-- the same of the line of a momentum
pub momentum-parts : (cell : Moment) (format : Format) (x gap y between z end : List ℕ)
    → format ≡ Ascii → x ≡ signed_decimal cell.jx → gap ≡ codes " " → y ≡ signed_decimal cell.jy → between ≡ codes " " → z ≡ signed_decimal cell.jz → end ≡ codes "\n"
    → x ++ (gap ++ (y ++ (between ++ (z ++ (end ++ []))))) ≡ row format (momentum cell)
momentum-parts cell format x gap y between z end is e1 e2 e3 e4 e5 e6 =
    rw (is, e1, e2, e3, e4, e5, e6) (sym (triple-rest signed_decimal cell.jx cell.jy cell.jz (10 ∷ [])))

-- and in binary
pub momentum-bytes : (cell : Moment) (format : Format) (x y z : List ℕ) → format ≡ Binary → x ≡ four_bytes cell.jx → y ≡ four_bytes cell.jy → z ≡ four_bytes cell.jz
    → x ++ (y ++ (z ++ [])) ≡ row format (momentum cell)
momentum-bytes cell format x y z is e1 e2 e3 = rw (is, e1, e2, e3) refl

-- a file has some bytes
pub vtk-some : (space : Torus) (step : ℕ) (moments : List Moment) (format : Format) → vtk space step moments format ≢ []
vtk-some space step moments format none = cc
