pub mod PieceByPiece
pub mod Joined
