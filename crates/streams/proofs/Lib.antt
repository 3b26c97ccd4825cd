mod Pieces
