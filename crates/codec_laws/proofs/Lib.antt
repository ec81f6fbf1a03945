-- Reading and writing are inverse. `ImageLaws` has the laws of whole images; the others prove them piece by piece.
pub mod NumberTrip
pub mod Sequence
pub mod Lengths
pub mod SetTrip
pub mod ObjectTrip
pub mod HeadTrip
pub mod BindTrip
pub mod TreeTrip
pub mod ImageLaws
