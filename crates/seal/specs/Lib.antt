-- SPDX-License-Identifier: MPL-2.0
pub mod Padding
pub mod Keys
pub mod Opening
pub mod Sealed
