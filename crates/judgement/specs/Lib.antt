-- Scalars: what refusal 29 asks of the settings of a direction beside its lists. Settings: which settings it lets through. Laws: that they pass
-- which a text gives.
pub mod Scalars
pub mod Settings
pub mod Laws
