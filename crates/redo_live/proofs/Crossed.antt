-- What a closure captures says whether it may go to another thread, or be shared.
use Rattle.std.proofs.Common.{[], ◌∷◌}
use denote.Param.Send.{IsSend, IsSync}
use denote.Param.SendFields.{as_row_send, as_row_sync, declared_send, declared_sync}
use denote.RattleType.{RattleType}
use denote.Struct.Field.{row_field}
use denote.Struct.Tuple.{TupleAt, type_at}
use mir.Syntax.{Sym}

pub two_sync : (v : Sym) (T U : RattleType) → IsSync T → IsSync U → IsSync (TupleAt v (T ∷ U ∷ []))
two_sync v T U t u = declared_sync (type_at v (T ∷ U ∷ [])) (as_row_sync (row_field T) t, (as_row_sync (row_field U) u, tt))

pub three_send : (v : Sym) (T U V : RattleType) → IsSend T → IsSend U → IsSend V → IsSend (TupleAt v (T ∷ U ∷ V ∷ []))
three_send v T U V t u w = declared_send (type_at v (T ∷ U ∷ V ∷ []))
    (as_row_send (row_field T) t, (as_row_send (row_field U) u, (as_row_send (row_field V) w, tt)))
