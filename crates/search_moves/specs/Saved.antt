-- What holds of the alternatives of a search.
use Rattle.std.specs.Prelude.{◌≡◌, ℕ, List, [], ◌∷◌, drop}
use Rattle.level_terms.specs.Undo as heap
use Rattle.search_moves.specs.declared.frame.Mark.{Mark}
use Rattle.search_moves.specs.declared.frame.Saved.{Saved}
use Rattle.std.specs.Prelude.{Some}
use Rattle.ref_terms.specs.terms.Term.{Con}
use Rattle.ref_terms.specs.unification.Spine.{head_of}
use Rattle.ref_terms.specs.declared.sym.Sym.{Sym}
use Rattle.level_terms.specs.Reading.{read}
use Rattle.beta_fragment.specs.Names.{names}
use Rattle.hyp_clause.specs.declared.hyp.Hyp.{Hyp}
use Rattle.hyp_context.specs.Contexts.{hyps_for}
use Rattle.search_moves.specs.declared.frame.Frame.{Frame}
use Rattle.search_moves.specs.declared.frame.Left.{Left}
use Rattle.search_moves.specs.declared.frame.Left.TheVariants.{Call, Side}
use Rattle.search_moves.specs.declared.frame.Later.{Later}
use Rattle.search_moves.specs.declared.frame.Later.TheVariants.{Assumptions, Clauses}
use Rattle.search_moves.specs.World.{World, undone, chain, IsWithin, IsFine}

-- the assumptions that are left are those of the constant from the place on
abbrev pub IsLaterOf : List Hyp → Sym → Later → Type 0
IsLaterOf hs c (Assumptions i left) = left ≡ drop i (hyps_for c.0 hs)
IsLaterOf hs c (Clauses i) = Unit {0}

-- the first goal is headed by a constant, and this is left of its call
pub record IsCallLeft (w : World) (n : ℕ) (c : Sym) (later : Later) : Type 0 where
  pub frame : Frame
  pub goals : chain w.frames n ≡ frame ∷ chain w.frames frame.next
  pub head : head_of (read w.heap frame.term.index names) ≡ Some (Con c.0)
  pub left : IsLaterOf frame.context c later

-- what is left belongs to the first of the goals
abbrev pub HasLeft : World → (first : ℕ) → Left → Type 0
HasLeft w n (Call c later) = IsCallLeft w n c later
HasLeft w n Side = Unit {0}

-- the alternative's world can be gone back to, and has its goals
pub record IsSaved (w : World) (a : Saved) : Type 0 where
  pub within : IsWithin a.mark w
  pub closed : heap.IsClosed a.mark.heap w.heap
  pub fine : IsFine (undone a.mark w) a.first
  pub left : HasLeft (undone a.mark w) a.first a.left

-- so each alternative, newest first, in the world that going back to the newer one leaves
abbrev pub AllSaved : World → List Saved → Type 0
AllSaved w [] = Unit {0}
AllSaved w (a ∷ older) = IsSaved w a × AllSaved (undone a.mark w) older

-- going back to the mark leaves the same, after what came between
pub record Keeps (m : Mark) (w w' : World) : Type 0 where
  pub within : IsWithin m w'
  pub same : undone m w' ≡ undone m w

-- going back to the newest alternative leaves the same
abbrev pub KeepsNewest : List Saved → (w w' : World) → Type 0
KeepsNewest [] w w' = Unit {0}
KeepsNewest (a ∷ older) w w' = Keeps a.mark w w'

-- how many frames the newest alternative needs
abbrev pub newest_frames : List Saved → ℕ
newest_frames [] = 0
newest_frames (a ∷ older) = a.mark.frames
