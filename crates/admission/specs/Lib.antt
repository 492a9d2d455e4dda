-- Read Admitted (what is counted), Follow (what follows each decision). Laws has the bounds of the counts.
pub mod Admitted
pub mod Follow
pub mod Laws
